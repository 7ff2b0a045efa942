-- A byte more went, or the writer failed in it.
use Rattle.std.proofs.Common.{◌∙◌, ap, arith}
use Rattle.json.specs.Print.{escape_byte}
use Rattle.dd_json.proofs.ShownTexts.{shown_escape, shown_each}
use Rattle.dd_lines.proofs.GoingOn.{went_all, went_fails, went_more}
use Rattle.dd_json.proofs.parts.add_shown_part.Goals as goal

pub returns-in_err-add_byte-clause-written : goal.returns-in_err-add_byte-clause-written
returns-in_err-add_byte-clause-written g c =
    went_fails c.from_residual.result shown_escape c.args.part.now c.loop-byte.byte-index 0 _ _ _ _ _
    c.from_residual.ensures.0 c.loop-byte-test.true (ap escape_byte c.shown_byte.ensures) (shown_each c.args.part.now) c.loop-byte.invariant.went
    c.in_err-add_byte.ensures.written

pub loop-byte-preserved : goal.loop-byte-preserved
loop-byte-preserved g c = record {
  same = c.in_ok-add_byte.ensures.same ∙ c.loop-byte.invariant.same;
  went = went_more shown_escape c.args.part.now c.loop-byte.byte-index 0 _ _ _ _ c.loop-byte-test.true (ap escape_byte c.shown_byte.ensures)
      c.loop-byte.invariant.went c.in_ok-add_byte.ensures.written;
  stays = c.in_ok-add_byte.ensures.rest ∙ c.loop-byte.invariant.stays;
}

pub returns-clause-written : goal.returns-clause-written
returns-clause-written g c =
    went_all shown_escape c.args.part.now c.loop-byte.byte-index _ _ _ (omega arith) (shown_each c.args.part.now) c.loop-byte.invariant.went
