-- A group more went, or the writer failed in it; the rest is a group too.
use Rattle.std.proofs.Common.{◌∙◌, arith}
use Rattle.dd_dicom_json.proofs.Leaving.{leaves_fails, leaves_last, leaves_next}
use Rattle.dd_dicom_json.proofs.PartTexts.{group_next}
use Rattle.dd_dicom_json.proofs.base64_text.add_base64.Goals as goal

pub returns-clause-written : goal.returns-clause-written
returns-clause-written g c =
    leaves_last c.add_group-2.result _ _ _ _ _ c.loop-rest.invariant.left c.add_group-2.ensures.written

pub returns-in_err-add_group-clause-written : goal.returns-in_err-add_group-clause-written
returns-in_err-add_group-clause-written g c =
    leaves_fails c.from_residual.result _ _ _ _ _ _ _ c.from_residual.ensures.0 (group_next c.loop-rest.rest.now (omega arith))
    c.loop-rest.invariant.left c.in_err-add_group.ensures.written

pub loop-rest-preserved : goal.loop-rest-preserved
loop-rest-preserved g c = record {
  same = c.in_ok-add_group.ensures.same ∙ c.loop-rest.invariant.same;
  left = leaves_next _ _ _ _ _ _ _ (group_next c.loop-rest.rest.now (omega arith)) c.loop-rest.invariant.left c.in_ok-add_group.ensures.written;
}
