-- The passes along records by counters: one notes the topmost level with too many, and one gives File IDs.
use Rattle.std.specs.Prelude.{◌≤◌, ℕ, List, [], ◌∷◌, Option, Some, nat_lt, if◌then◌else◌}
use Rattle.dd_records.specs.declared.level.Level.{Level}
use Rattle.dd_layout.specs.declared.ranks.Counters.{Counters}
use Rattle.dd_records.specs.declared.record.PlanRecord.{PlanRecord}
use Rattle.dd_layout.specs.Numbering.{after, count_of, counted_file, topmost}

-- no counter is above this number
pub record AreWithin (most : ℕ) (counters : Counters) : Type 0 where
  pub patient : counters.patient ≤ most
  pub study : counters.study ≤ most
  pub series : counters.series ≤ most
  pub image : counters.image ≤ most

-- what is noted after a record of this level and rank
abbrev pub noted : ℕ → Level → ℕ → Option Level → Option Level
noted most level rank before = if nat_lt most rank then Some (topmost level before) else before

-- ---- the passes, from these counters on

abbrev pub numbered_from : Counters → List PlanRecord → List PlanRecord
numbered_from counters [] = []
numbered_from counters (row ∷ rows) =
    record row { file = counted_file row.level (after row.level counters) }
    ∷ numbered_from (after row.level counters) rows

abbrev pub noted_from : ℕ → Counters → Option Level → List Level → Option Level
noted_from most counters before [] = before
noted_from most counters before (level ∷ levels) =
    noted_from most (after level counters) (noted most level (count_of level (after level counters)) before) levels
