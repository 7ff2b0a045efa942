-- The parts so far went.
use Rattle.std.proofs.Common.{◌≡◌, ℕ, List}
use Rattle.std.specs.Borrow.{Bor}
use Rattle.dd_lines.specs.Telling.{shown, way_of}
use Rattle.dd_lines.proofs.GoingOn.{Went}
use Rattle.dd_lines.proofs.line_buffer.LineBuffer.add_parts.Given as goal

abbrev pub invariant-loop-part : goal.invariant-loop-part
invariant-loop-part g l = record {
  same : l.self.to.ghost_name ≡ l.initial.self.to.ghost_name;
  went : Went (λ (part : Bor (List ℕ)). shown part.now) l.parts l.part-index
      (way_of g.W.Write l.initial.self)
      (way_of g.W.Write l.self);
  stays : g.W.Write.rest l.self.to.now ≡ g.W.Write.rest l.initial.self.to.now;
}
