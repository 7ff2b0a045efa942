-- What a merge of directories says beside its directory, given to a caller.
use Rattle.std.specs.Prelude.{◌≡◌, ◌≤◌, ◌<◌, ◌-◌, ◌⊎◌, ℕ, List, [], length, Ok}
use Rattle.dd_engine.specs.declared.choice.Choice.{Choice}
use Rattle.dd_engine.specs.declared.noted_merge.NotedMerge.{NotedMerge}
use Rattle.dd_engine.specs.MergeNotes.{NotesSets}
use Rattle.dd_calls.specs.declared.answer.Answer.{Answer}
use Rattle.dd_calls.specs.Sizes.{over, sized}
use Rattle.dd_making.specs.declared.note_rows.NoteRow.{NoteRow}
use Rattle.dd_making.specs.declared.note_rows.NoteTable.{NoteTable}
use Rattle.dd_making.specs.declared.noting.Sum.{Sum}
use Rattle.dd_making.specs.Merges.{AsksFor, no_limits}
use Rattle.dd_making.specs.Notes.{AreNotesOf}

-- an image of the sets is the first that is planned, or it is left out for another one, or withdrawn, or it repeats one
-- that is planned
abbrev pub sum_of : NotedMerge → Sum
sum_of noted =
    let images = noted.sets.images in let kept = length noted.merged.plan.versions in
    let others = length noted.notes.left_out.items in let gone = noted.sets.all_withdrawn in record {
      images = images;
      kept = kept;
      left_out = others;
      repeated = images - kept - others - gone;
      withdrawn = gone;
    }

-- these sets are merged under this choice, and this is noted
pub record AreNoted (choice : Choice) (sets : List (List ℕ)) (table : NoteTable) (sum : Sum) : Type 0 where
  pub noted : NotedMerge
  pub notes : NotesSets choice no_limits [] sets (Ok noted)
  pub table_is : AreNotesOf noted.notes table
  pub sum_is : sum ≡ sum_of noted

-- what lies in the rooms of a call
pub record NoteRooms : Type 0 where
  pub rows : List NoteRow
  pub ends : List ℕ
  pub text : List ℕ
  pub sum : Sum

abbrev pub note_rooms : List NoteRow → List ℕ → List ℕ → Sum → NoteRooms
note_rooms rows ends text sum = record { rows = rows; ends = ends; text = text; sum = sum }

abbrev pub table_size : NoteTable → Answer
table_size table = sized (length table.texts.text.items) (length table.rows.items) (length table.texts.ends.items)

-- all of the table was given to the fronts of the rooms
pub record TableLiesIn (table : NoteTable) (old new : NoteRooms) : Type 0 where
  pub rows : (new.rows ≡ over table.rows.items old.rows) × (length table.rows.items ≤ length old.rows)
  pub ends : (new.ends ≡ over table.texts.ends.items old.ends) × (length table.texts.ends.items ≤ length old.ends)
  pub text : (new.text ≡ over table.texts.text.items old.text) × (length table.texts.text.items ≤ length old.text)

-- one of its parts is longer than its room
abbrev pub IsWiderTable : NoteTable → NoteRooms → Type 0
IsWiderTable table old = (length old.rows < length table.rows.items)
    ⊎ ((length old.ends < length table.texts.ends.items) ⊎ (length old.text < length table.texts.text.items))

-- all of it was given
pub record GivesNotes (id uid : List ℕ) (sets : List (List ℕ)) (old new : NoteRooms) (answer : Answer) : Type 0 where
  pub choice : Choice
  pub asks : AsksFor id uid choice
  pub table : NoteTable
  pub are_noted : AreNoted choice sets table new.sum
  pub lies : TableLiesIn table old new
  pub size : answer ≡ table_size table

-- one of its parts is longer than its room
pub record LacksNoteRoom (id uid : List ℕ) (sets : List (List ℕ)) (old : NoteRooms) (answer : Answer) : Type 0 where
  pub choice : Choice
  pub asks : AsksFor id uid choice
  pub table : NoteTable
  pub sum : Sum
  pub are_noted : AreNoted choice sets table sum
  pub wider : IsWiderTable table old
  pub size : answer ≡ table_size table
