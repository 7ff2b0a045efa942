-- Two spaces more went, or the writer failed in them.
use Rattle.std.proofs.Common.{◌∙◌, arith, codes}
use Rattle.dd_lines.proofs.GoingOn.{repeat_fails, repeat_goes}
use Rattle.dd_lines.proofs.line_buffer.LineBuffer.add_indent.Goals as goal

pub returns-in_err-add-clause-written : goal.returns-in_err-add-clause-written
returns-in_err-add-clause-written g c =
    repeat_fails c.from_residual.result c.loop.counter c.args.level (codes "  ") _ _ _ c.from_residual.ensures.0
    (omega arith) c.loop.invariant.went c.in_err-add.ensures.unsent

pub loop-preserved : goal.loop-preserved
loop-preserved g c = record {
  same = c.in_ok-add.ensures.same ∙ c.loop.invariant.same;
  went = repeat_goes c.loop.counter (codes "  ") _ _ _ c.loop.invariant.went c.in_ok-add.ensures.sent;
}
