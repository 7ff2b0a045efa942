-- The text up to the rest is taken up: what of it did not go waits.
use Rattle.std.proofs.Common.{◌≡◌, ◌++◌, length}
use Rattle.dd_lines.specs.Text.{SendsFront, masked}
use Rattle.dd_lines.proofs.line_buffer.LineBuffer.add_masked.Given as goal
use denote.Shadow.{shadow}
use denote.Text.{Utf8}

abbrev pub invariant-loop-front : goal.invariant-loop-front
invariant-loop-front g l = record {
  utf8 : shadow (Utf8 l.rest);
  same : l.self.to.ghost_name ≡ l.initial.self.to.ghost_name;
  sent : SendsFront g.W.Write l.initial.self.to.now l.self.to.now
      (l.initial.self.waiting ++ masked l.text) (l.self.waiting ++ masked l.rest);
  stays : g.W.Write.rest l.self.to.now ≡ g.W.Write.rest l.initial.self.to.now;
}

abbrev pub decreases-loop-front : goal.decreases-loop-front
decreases-loop-front g l = length l.rest
