-- The lines of the first patients are printed.
use Rattle.std.proofs.Common.{take}
use Rattle.dicomdir.proofs.SaidLines.{SaidTo}
use Rattle.dicomdir.specs.Said.{IsNames}
use Rattle.dicomdir.proofs.note_lines.tell_names.Given as goal

abbrev pub invariant-loop-patient : goal.invariant-loop-patient
invariant-loop-patient g l =
    SaidTo g.O.Write (IsNames l.style) (take l.patient-index l.patients) l.fn.out l.out
