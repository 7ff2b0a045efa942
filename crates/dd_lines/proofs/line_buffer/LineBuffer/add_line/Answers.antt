-- The parts went, and then the end of the line.
use Rattle.dd_lines.specs.Telling.{parts_of}
use Rattle.dd_lines.proofs.GoingOn.{line_ends, line_fails}
use Rattle.dd_lines.proofs.line_buffer.LineBuffer.add_line.Goals as goal

pub returns-in_err-add_parts-clause-written : goal.returns-in_err-add_parts-clause-written
returns-in_err-add_parts-clause-written g c =
    line_fails c.from_residual.result (parts_of c.args.parts.now) _ _ c.from_residual.ensures.0
    c.in_err-add_parts.ensures.written

pub returns-clause-written : goal.returns-clause-written
returns-clause-written g c =
    line_ends c.add_end.result (parts_of c.args.parts.now) _ _ _ c.in_ok-add_parts.ensures.written c.add_end.ensures.written
