-- The bytes so far went.
use Rattle.std.proofs.Common.{◌≡◌, ℕ, [], ◌∷◌}
use Rattle.dd_lines.specs.Telling.{shown_byte, way_of}
use Rattle.dd_lines.proofs.GoingOn.{Went}
use Rattle.dd_lines.proofs.line_buffer.LineBuffer.add_shown.Given as goal

abbrev pub invariant-loop-byte : goal.invariant-loop-byte
invariant-loop-byte g l = record {
  same : l.self.to.ghost_name ≡ l.initial.self.to.ghost_name;
  went : Went (λ (byte : ℕ). shown_byte byte ∷ []) l.text l.byte-index
      (way_of g.W.Write l.initial.self)
      (way_of g.W.Write l.self);
  stays : g.W.Write.rest l.self.to.now ≡ g.W.Write.rest l.initial.self.to.now;
}
