-- The lines of the first UIDs are printed.
use Rattle.std.proofs.Common.{take}
use Rattle.dicomdir.proofs.SaidLines.{SaidTo}
use Rattle.dicomdir.specs.Said.{IsUnlisted}
use Rattle.dicomdir.proofs.set_note_lines.tell_unlisted.Given as goal

abbrev pub invariant-loop-instance : goal.invariant-loop-instance
invariant-loop-instance g l =
    SaidTo g.O.Write (IsUnlisted l.style) (take l.instance-index l.unlisted) l.fn.out l.out
