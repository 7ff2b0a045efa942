-- Sources of which some can't be opened or read to their end, where an index goes on past these.
use Rattle.std.specs.Prelude.{◌≡◌, ℕ, List, Option, None, Ok, Err}
use Rattle.dd_layout.specs.Limits.{Limits}
use Rattle.dd_engine.specs.declared.choice.Choice.{Choice}
use Rattle.dd_sources.specs.declared.engine_fault.EngineFault.{EngineFault}
use Rattle.dd_sources.specs.declared.engine_fault.EngineFault.TheVariants.{Memory, Absent, Unread, Plan}
use Rattle.dd_engine.specs.declared.notes.ConflictingFiles.{ConflictingFiles}
use Rattle.dd_engine.specs.declared.past_failures.PastFailures.{PastFailures}
use Rattle.dd_sources.specs.declared.supply.Supply.{Ghosts as SupplyOf}
use Rattle.dd_engine.specs.Indexed.{Indexes}
use Rattle.dd_engine.specs.IndexNotes.{ConflictsIn, NotesIndex}
use Rattle.dd_sources.specs.Readings.{AreAllReadings, Reading, absent_in, answers_of}

module _ {S In : Type 0} (supply : SupplyOf S In) where
  -- the supply was read to its end, and the index of the answers is this
  abbrev pub NotesPast : Choice → Limits → ℕ → PastFailures → S → S → Type 0
  NotesPast choice limits limit past old new = (readings : List Reading) × AreAllReadings supply limit readings old new
      × NotesIndex choice limits (answers_of readings) (Ok past.noted) × (past.absent.items ≡ absent_in readings)

  -- Why there is no index. No source is named: memory ran out, or the versions of all sources have no plan.
  abbrev pub RefusesPast : Choice → Limits → ℕ → EngineFault → Option (ConflictingFiles ℕ) → S → S → Type 0
  RefusesPast choice limits limit Memory conflict old new = conflict ≡ None
  RefusesPast choice limits limit (Plan fault) conflict old new = (readings : List Reading)
      × AreAllReadings supply limit readings old new × Indexes choice limits (answers_of readings) (Err (Plan fault))
      × ConflictsIn (answers_of readings) (Plan fault) conflict
  RefusesPast choice limits limit (Absent at) conflict old new = ⊥
  RefusesPast choice limits limit (Unread at) conflict old new = ⊥
