-- One line more is printed.
use Rattle.std.proofs.Common.{arith, refl, subst}
use Rattle.dd_line.specs.Line.{words_of}
use Rattle.dicomdir.proofs.SaidLines.{said_more}
use Rattle.dd_messages.specs.NoteLines.{left_out_line}
use Rattle.dicomdir.specs.Said.{IsLeftOut, shown_text}
use Rattle.dicomdir.proofs.note_lines.tell_left_out.Goals as goal

pub loop-note-preserved : goal.loop-note-preserved
loop-note-preserved g c =
    let shows = g.T.ShownFile.shows (words_of c.args.paths.now) in
    let style = c.args.style in
    let note = c.note-item.result in
    let file = shown_text c.path_among-file.result in
    let kept = shown_text c.path_among-kept.result in
    let line = left_out_line style file kept note.instance in
    let is : IsLeftOut style shows note line = record {
      file = file;
      shown = c.path_among-file.ensures;
      kept = kept;
      shown_kept = c.path_among-kept.ensures;
      is = refl;
    } in
    said_more g.O.Write (IsLeftOut style shows) c.args.left_out.now c.loop-note.note-index note line c.args.out.now
    c.loop-note.out c.tell_left_out_for.new.out (omega (arith, c.loop-note-test.true)) c.loop-note.invariant
    (subst (λ note. IsLeftOut style shows note line) c.note-item.is is) c.in_ok-tell_left_out_for.ensures.told
