-- The lines of the first files are printed.
use Rattle.std.proofs.Common.{take}
use Rattle.dd_line.specs.Line.{words_of}
use Rattle.dicomdir.proofs.SaidLines.{SaidTo}
use Rattle.dicomdir.specs.Said.{IsLeftOut}
use Rattle.dicomdir.proofs.note_lines.tell_left_out.Given as goal

abbrev pub invariant-loop-note : goal.invariant-loop-note
invariant-loop-note g l =
    SaidTo g.O.Write (IsLeftOut l.style (g.T.ShownFile.shows (words_of l.paths))) (take l.note-index l.left_out) l.fn.out
    l.out
