-- The notes on sources and on file-sets.
use Rattle.std.specs.Prelude.{◌<◌, ◌⊎◌, ℕ, All, length}
use Rattle.dd_engine.specs.declared.noted_index.NotedIndex.{NotedIndex}
use Rattle.dd_engine.specs.declared.noted_merge.NotedMerge.{NotedMerge}
use Rattle.dd_engine.specs.declared.notes.Notes.{Notes}
use Rattle.dd_engine.specs.declared.set_notes.SetNotes.{SetNotes}
use Rattle.dd_engine.specs.Noting.{AreBelow}
use Rattle.dd_engine.specs.SetNotes.{NameSetsBelow}

-- there is a note of a file that is left out, or of a Patient ID with more than one name
abbrev pub HasNotes : {T : Type 0} → Notes T → Type 0
HasNotes notes = (0 < length notes.left_out.items) ⊎ (0 < length notes.names.items)

-- a source is skipped, or there is a note on the sources
abbrev pub IsNotedIndex : NotedIndex → Type 0
IsNotedIndex noted = (0 < length noted.indexed.skipped.items) ⊎ HasNotes noted.notes

-- there is a note of records that are not reached, of an image that is withdrawn, or of a given UID in no record
abbrev pub HasSetNotes : SetNotes → Type 0
HasSetNotes notes = (0 < length notes.unreached.items) ⊎ (0 < length notes.withdrawn.items)
    ⊎ (0 < length notes.unlisted.items)

-- there is a note on the file-sets of a merge
abbrev pub IsNoted : NotedMerge → Type 0
IsNoted noted = HasNotes noted.notes ⊎ HasSetNotes noted.sets

-- the number of each set that the picks and the notes name is below the count
abbrev pub NamesBelow : ℕ → NotedMerge → Type 0
NamesBelow count noted = All (λ pick. pick.set < count) noted.merged.picks.items
    × AreBelow (λ pick. pick.set) count noted.notes.left_out.items × NameSetsBelow count noted.sets
