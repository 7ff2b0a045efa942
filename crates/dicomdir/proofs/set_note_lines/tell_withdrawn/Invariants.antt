-- Where there is no such image, nothing is printed.
use Rattle.std.proofs.Common.{◌≡◌, []}
use Rattle.dicomdir.proofs.set_note_lines.tell_withdrawn.Given as goal

abbrev pub invariant-loop-image : goal.invariant-loop-image
invariant-loop-image g l = record {
  worked : g.O.Write.failures l.out ≡ g.O.Write.failures l.fn.out;
  none : l.withdrawn ≡ [] → l.out ≡ l.fn.out;
}
