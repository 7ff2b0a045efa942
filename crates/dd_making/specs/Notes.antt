-- The notes of a merge as rows and texts.
use Rattle.std.specs.Prelude.{◌≡◌, ℕ, List, [], ◌∷◌, ◌++◌, length, map}
use Rattle.std.specs.List.{flat_map}
use Rattle.dd_engine.specs.PatientNames.{NamedPatient}
use Rattle.dd_engine.specs.declared.merge.Pick.{Pick}
use Rattle.dd_engine.specs.declared.notes.LeftOut.{LeftOut}
use Rattle.dd_engine.specs.declared.notes.Notes.{Notes}
use Rattle.dd_calls.specs.Texts.{AreTexts, Puts}
use Rattle.dd_making.specs.declared.note_rows.NoteRow.{NoteRow}
use Rattle.dd_making.specs.declared.note_rows.NoteTable.{NoteTable}

-- ---- a file that is left out: the sets of both files, their File IDs, and the SOP Instance UID of both

abbrev pub left_out_row : LeftOut Pick → NoteRow
left_out_row note = record { kind = 1; set = note.file.set; kept = note.kept.set; names = 0 }

abbrev pub left_out_texts : LeftOut Pick → List (List ℕ)
left_out_texts note = note.file.file.now ∷ note.kept.file.now ∷ note.instance ∷ []

-- ---- a Patient ID with several names: how many, the Patient ID, and then the names

abbrev pub names_row : NamedPatient → NoteRow
names_row patient = record { kind = 2; set = 0; kept = 0; names = length patient.names }

abbrev pub names_texts : NamedPatient → List (List ℕ)
names_texts patient = patient.id ∷ patient.names

-- ---- a table of notes

abbrev pub note_rows : Notes Pick → List NoteRow
note_rows notes = map left_out_row notes.left_out.items ++ map names_row notes.names.items

abbrev pub note_texts : Notes Pick → List (List ℕ)
note_texts notes = flat_map left_out_texts notes.left_out.items ++ flat_map names_texts notes.names.items

pub record AreNotesOf (notes : Notes Pick) (table : NoteTable) : Type 0 where
  pub rows : table.rows.items ≡ note_rows notes
  pub texts : AreTexts (note_texts notes) table.texts

-- these rows and texts came after the earlier ones
pub record AddsNotes (rows : List NoteRow) (texts : List (List ℕ)) (old new : NoteTable) : Type 0 where
  pub rows_are : new.rows.items ≡ old.rows.items ++ rows
  pub texts_are : Puts texts old.texts new.texts
