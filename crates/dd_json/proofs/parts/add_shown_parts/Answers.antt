-- A part more went, or the writer failed in it.
use Rattle.std.proofs.Common.{◌∙◌, arith, refl}
use Rattle.dd_json.proofs.ShownTexts.{part_escape, parts_each}
use Rattle.dd_lines.proofs.GoingOn.{went_all, went_fails, went_more}
use Rattle.dd_json.proofs.parts.add_shown_parts.Goals as goal

pub returns-in_err-add_shown_part-clause-written : goal.returns-in_err-add_shown_part-clause-written
returns-in_err-add_shown_part-clause-written g c =
    went_fails c.from_residual.result part_escape c.args.parts.now c.loop-part.part-index _ _ _ _ _ _
    c.from_residual.ensures.0 c.loop-part-test.true refl (parts_each c.args.parts.now) c.loop-part.invariant.went
    c.in_err-add_shown_part.ensures.written

pub loop-part-preserved : goal.loop-part-preserved
loop-part-preserved g c = record {
  same = c.in_ok-add_shown_part.ensures.same ∙ c.loop-part.invariant.same;
  went = went_more part_escape c.args.parts.now c.loop-part.part-index _ _ _ _ _ c.loop-part-test.true refl
      c.loop-part.invariant.went c.in_ok-add_shown_part.ensures.written;
  stays = c.in_ok-add_shown_part.ensures.rest ∙ c.loop-part.invariant.stays;
}

pub returns-clause-written : goal.returns-clause-written
returns-clause-written g c =
    went_all part_escape c.args.parts.now c.loop-part.part-index _ _ _ (omega arith) (parts_each c.args.parts.now)
    c.loop-part.invariant.went
