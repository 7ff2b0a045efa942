-- The lines of the first file-sets are printed.
use Rattle.std.proofs.Common.{take}
use Rattle.dd_line.specs.Line.{words_of}
use Rattle.dicomdir.proofs.SaidLines.{SaidTo}
use Rattle.dicomdir.specs.Said.{IsUnreached}
use Rattle.dicomdir.proofs.set_note_lines.tell_unreached.Given as goal

abbrev pub invariant-loop-note : goal.invariant-loop-note
invariant-loop-note g l =
    SaidTo g.O.Write (IsUnreached l.style (words_of l.folders)) (take l.note-index l.unreached) l.fn.out l.out
