-- The lines of the first sources are printed.
use Rattle.std.proofs.Common.{take}
use Rattle.dd_line.specs.Line.{words_of}
use Rattle.dicomdir.proofs.SaidLines.{SaidTo}
use Rattle.dicomdir.specs.Said.{IsSkip}
use Rattle.dicomdir.proofs.note_lines.tell_skipped.Given as goal

abbrev pub invariant-loop-at : goal.invariant-loop-at
invariant-loop-at g l =
    SaidTo g.O.Write (IsSkip l.style (words_of l.sources)) (take l.at-index l.skipped) l.fn.out l.out
