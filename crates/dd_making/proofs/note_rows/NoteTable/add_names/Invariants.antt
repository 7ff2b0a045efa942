-- The notes so far were added.
use Rattle.dd_making.specs.Notes.{names_row, names_texts}
use Rattle.dd_making.proofs.PutNotes.{Went}
use Rattle.dd_making.proofs.note_rows.NoteTable.add_names.Given as goal

abbrev pub invariant-loop-patient : goal.invariant-loop-patient
invariant-loop-patient l = Went names_row names_texts l.patients l.patient-index l.initial.self l.self
