-- One note more was added.
use Rattle.std.proofs.Common.{arith}
use Rattle.dd_making.specs.Notes.{left_out_row, left_out_texts}
use Rattle.dd_making.proofs.PutNotes.{went_all, went_more}
use Rattle.dd_making.proofs.note_rows.NoteTable.add_left_out.Goals as goal

pub loop-note-preserved : goal.loop-note-preserved
loop-note-preserved c =
    went_more left_out_row left_out_texts c.args.notes.now c.loop-note.note-index c.note-item.result _ _ _
    c.loop-note-test.true c.note-item.is c.loop-note.invariant c.in_ok-add_file.ensures

pub returns : goal.returns
returns c =
    went_all left_out_row left_out_texts c.args.notes.now c.loop-note.note-index _ _ (omega arith)
    c.loop-note.invariant
