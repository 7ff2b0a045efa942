-- A fragment more went, or the writer failed in it.
use Rattle.std.proofs.Common.{◌∙◌, ◌∷◌, [], arith}
use Rattle.dd_dicom_json.proofs.ElementTexts.{fragment_parts, fragments_end}
use Rattle.dd_dicom_json.proofs.Leaving.{leaves_ends, leaves_fails, leaves_next}
use Rattle.dd_dicom_json.proofs.names.add_all_fragments.Goals as goal

pub returns-in_err-add_parts-clause-written : goal.returns-in_err-add_parts-clause-written
returns-in_err-add_parts-clause-written g c =
    leaves_fails c.from_residual.result _ _ _ _ _ _ _ c.from_residual.ensures.0
    (fragment_parts c.loop-fragment.later c.comma.result.now c.args.fragments.now c.loop-fragment.fragment-index _
    c.loop-fragment-test.true c.comma.ensures)
    c.loop-fragment.invariant.went c.in_err-add_parts.ensures.written

pub loop-fragment-preserved : goal.loop-fragment-preserved
loop-fragment-preserved g c = record {
  same = c.in_ok-add_parts.ensures.same ∙ c.loop-fragment.invariant.same;
  went = leaves_next _ _ _ _ _ _ _
      (fragment_parts c.loop-fragment.later c.comma.result.now c.args.fragments.now c.loop-fragment.fragment-index _
      c.loop-fragment-test.true c.comma.ensures)
      c.loop-fragment.invariant.went c.in_ok-add_parts.ensures.written;
}

pub returns-clause-written : goal.returns-clause-written
returns-clause-written g c =
    leaves_ends c.add_raw.result _ _ (93 ∷ []) _ _ _
    (fragments_end c.loop-fragment.later c.args.fragments.now c.loop-fragment.fragment-index (omega arith))
    c.loop-fragment.invariant.went c.add_raw.ensures.written
