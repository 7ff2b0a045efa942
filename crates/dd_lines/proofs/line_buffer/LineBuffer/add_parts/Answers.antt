-- A part more went, or the writer failed in it.
use Rattle.std.proofs.Common.{ℕ, List, ◌∙◌, arith, refl}
use Rattle.std.specs.Borrow.{Bor}
use Rattle.dd_lines.specs.Telling.{shown}
use Rattle.dd_lines.proofs.GoingOn.{part_fails, shown_parts, went_all, went_more}
use Rattle.dd_lines.proofs.line_buffer.LineBuffer.add_parts.Goals as goal

pub returns-in_err-add_shown-clause-written : goal.returns-in_err-add_shown-clause-written
returns-in_err-add_shown-clause-written g c =
    part_fails c.from_residual.result c.args.parts.now c.loop-part.part-index _ _ _ _ c.from_residual.ensures.0
    c.loop-part-test.true c.loop-part.invariant.went c.in_err-add_shown.ensures.written

pub loop-part-preserved : goal.loop-part-preserved
loop-part-preserved g c = record {
  same = c.in_ok-add_shown.ensures.same ∙ c.loop-part.invariant.same;
  went = went_more (λ (part : Bor (List ℕ)). shown part.now) c.args.parts.now c.loop-part.part-index _ _ _ _ _
      c.loop-part-test.true refl c.loop-part.invariant.went c.in_ok-add_shown.ensures.written;
  stays = c.in_ok-add_shown.ensures.rest ∙ c.loop-part.invariant.stays;
}

pub returns-clause-written : goal.returns-clause-written
returns-clause-written g c =
    went_all (λ (part : Bor (List ℕ)). shown part.now) c.args.parts.now c.loop-part.part-index _ _ _ (omega arith)
    (shown_parts c.args.parts.now) c.loop-part.invariant.went
