-- The notes so far were added.
use Rattle.dd_making.specs.Notes.{left_out_row, left_out_texts}
use Rattle.dd_making.proofs.PutNotes.{Went}
use Rattle.dd_making.proofs.note_rows.NoteTable.add_left_out.Given as goal

abbrev pub invariant-loop-note : goal.invariant-loop-note
invariant-loop-note l = Went left_out_row left_out_texts l.notes l.note-index l.initial.self l.self
