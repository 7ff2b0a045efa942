-- The parts before the next one are taken up: what of them did not go waits.
use Rattle.std.proofs.Common.{◌≡◌}
use Rattle.dd_lines.proofs.TextLemmas.{SentTo}
use Rattle.dd_lines.proofs.text.print_line.Given as goal

abbrev pub invariant-loop-part : goal.invariant-loop-part
invariant-loop-part g l = record {
  same : l.line.to.ghost_name ≡ l.initial.line.to.ghost_name;
  sent : SentTo l.parts l.part-index l.line.waiting
      (g.W.Write.contents l.fn.to) (g.W.Write.contents l.line.to.now)
      (g.W.Write.failures l.fn.to) (g.W.Write.failures l.line.to.now);
  stays : g.W.Write.rest l.line.to.now ≡ g.W.Write.rest l.fn.to;
}
