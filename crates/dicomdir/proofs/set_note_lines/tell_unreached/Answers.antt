-- One line more is printed.
use Rattle.std.proofs.Common.{arith, refl}
use Rattle.dd_line.specs.Line.{words_of}
use Rattle.dicomdir.proofs.SaidLines.{said_more}
use Rattle.dicomdir.specs.Said.{IsUnreached}
use Rattle.dicomdir.proofs.set_note_lines.tell_unreached.Goals as goal

pub loop-note-preserved : goal.loop-note-preserved
loop-note-preserved g c =
    said_more g.O.Write (IsUnreached c.args.style (words_of c.args.folders.now)) c.args.unreached.now
    c.loop-note.note-index _ _ c.args.out.now c.loop-note.out c.tell_unreached_in.new.out
    (omega (arith, c.loop-note-test.true)) c.loop-note.invariant refl c.in_ok-tell_unreached_in.ensures.told
