-- A tag more went, or the writer failed in it.
use Rattle.std.proofs.Common.{◌∙◌, ◌∷◌, [], arith}
use Rattle.dd_dicom_json.proofs.Leaving.{leaves_ends, leaves_fails, leaves_next}
use Rattle.dd_dicom_json.proofs.TagTexts.{tag_next, tags_end}
use Rattle.dd_dicom_json.proofs.tags.add_all_tags.Goals as goal

pub returns-in_err-add_parts-clause-written : goal.returns-in_err-add_parts-clause-written
returns-in_err-add_parts-clause-written g c =
    leaves_fails c.from_residual.result _ _ _ _ _ _ _ c.from_residual.ensures.0
    (tag_next c.loop-rest.later c.comma.result.now c.loop-rest.rest.now c.read_u16-group.result
    c.read_u16-element.result (omega arith) c.comma.ensures c.read_u16-group.ensures c.read_u16-element.ensures)
    c.loop-rest.invariant.went c.in_err-add_parts.ensures.written

pub loop-rest-preserved : goal.loop-rest-preserved
loop-rest-preserved g c = record {
  same = c.in_ok-add_parts.ensures.same ∙ c.loop-rest.invariant.same;
  went = leaves_next _ _ _ _ _ _ _
      (tag_next c.loop-rest.later c.comma.result.now c.loop-rest.rest.now c.read_u16-group.result
      c.read_u16-element.result (omega arith) c.comma.ensures c.read_u16-group.ensures c.read_u16-element.ensures)
      c.loop-rest.invariant.went c.in_ok-add_parts.ensures.written;
}

pub returns-clause-written : goal.returns-clause-written
returns-clause-written g c =
    leaves_ends c.add_raw.result _ _ (93 ∷ []) _ _ _ (tags_end c.loop-rest.later c.loop-rest.rest.now (omega arith))
    c.loop-rest.invariant.went c.add_raw.ensures.written
