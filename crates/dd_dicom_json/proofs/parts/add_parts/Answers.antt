-- A part more went, or the writer failed in it.
use Rattle.std.proofs.Common.{◌∙◌, arith, refl}
use Rattle.dd_lines.proofs.GoingOn.{went_all, went_fails, went_more}
use Rattle.dd_dicom_json.specs.Parts.{part_text, parts_text}
use Rattle.dd_dicom_json.proofs.parts.add_parts.Goals as goal

pub returns-in_err-add_part-clause-written : goal.returns-in_err-add_part-clause-written
returns-in_err-add_part-clause-written g c =
    went_fails c.from_residual.result part_text c.args.parts.now c.loop-part.part-index _ _ _ _ _ _
    c.from_residual.ensures.0 c.loop-part-test.true refl refl c.loop-part.invariant.went
    c.in_err-add_part.ensures.written

pub loop-part-preserved : goal.loop-part-preserved
loop-part-preserved g c = record {
  same = c.in_ok-add_part.ensures.same ∙ c.loop-part.invariant.same;
  went = went_more part_text c.args.parts.now c.loop-part.part-index _ _ _ _ _ c.loop-part-test.true refl
      c.loop-part.invariant.went c.in_ok-add_part.ensures.written;
}

pub returns-clause-written : goal.returns-clause-written
returns-clause-written g c =
    went_all part_text c.args.parts.now c.loop-part.part-index (parts_text c.args.parts.now) _ _ (omega arith) refl
    c.loop-part.invariant.went
