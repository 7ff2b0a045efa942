-- The spaces of the levels so far went.
use Rattle.std.proofs.Common.{◌≡◌, codes}
use Rattle.std.specs.List.{repeat}
use Rattle.dd_lines.specs.Telling.{GoesOn, way_of}
use Rattle.dd_lines.proofs.line_buffer.LineBuffer.add_indent.Given as goal

abbrev pub invariant-loop : goal.invariant-loop
invariant-loop g l = record {
  same : l.self.to.ghost_name ≡ l.initial.self.to.ghost_name;
  went : GoesOn (repeat l.counter (codes "  ")) (way_of g.W.Write l.initial.self) (way_of g.W.Write l.self);
}
