-- Sources that fail: why there is no index.
use Rattle.std.specs.Prelude.{ℕ, List, Option, Err}
use Rattle.dd_layout.specs.Limits.{Limits}
use Rattle.dd_engine.specs.Indexed.{Indexes, ReadsAll}
use Rattle.dd_engine.specs.IndexNotes.{ConflictsIn}
use Rattle.dd_engine.specs.declared.choice.Choice.{Choice}
use Rattle.dd_sources.specs.declared.engine_fault.EngineFault.{EngineFault}
use Rattle.dd_sources.specs.declared.engine_fault.EngineFault.TheVariants.{Memory, Absent, Unread, Plan}
use Rattle.dd_engine.specs.declared.notes.ConflictingFiles.{ConflictingFiles}
use Rattle.dd_sources.specs.declared.supply.Supply.{Ghosts as SupplyOf}
use Rattle.dd_sources.specs.Readings.{AreAllReadings, Reading, answers_of}
use Rattle.dd_engine.specs.PastFailures.{RefusesPast}
use Rattle.dd_sources.specs.Supply.{EndsWith}

-- where reading ended with a fault, the sources were not all read
pub not_all_read : (fault : EngineFault) (sources : ℕ) (refusals refused unread failed : ℕ → ℕ)
    → EndsWith fault sources refusals refused unread failed → ReadsAll (Err fault) → ⊥
not_all_read Memory sources refusals refused unread failed h all = all
not_all_read (Absent at) sources refusals refused unread failed h all = all
not_all_read (Unread at) sources refusals refused unread failed h all = all
not_all_read (Plan fault) sources refusals refused unread failed h all = h

-- where the index of the answers is refused
pub refuses_past : {S In : Type 0} (supply : SupplyOf S In) (choice : Choice) (limits : Limits) (limit : ℕ)
    (fault : EngineFault) (conflict : Option (ConflictingFiles ℕ)) (old new : S) (readings : List Reading)
    → AreAllReadings supply limit readings old new → Indexes choice limits (answers_of readings) (Err fault)
    → ConflictsIn (answers_of readings) fault conflict
    → RefusesPast supply choice limits limit fault conflict old new
refuses_past supply choice limits limit Memory conflict old new readings all refused is = is
refuses_past supply choice limits limit (Plan fault) conflict old new readings all refused is =
    (readings, all, refused, is)
refuses_past supply choice limits limit (Absent at) conflict old new readings all refused is = absurd refused
refuses_past supply choice limits limit (Unread at) conflict old new readings all refused is = absurd refused
