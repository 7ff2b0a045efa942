-- The records of a plan before all of it is known: first each record's level and version, then its File ID, then its
-- offset. Also the records of a plan moved, as another label moves them.
use Rattle.std.specs.Prelude.{ℕ, ◌+◌, ◌-◌, List, None, nat_lt, if◌then◌else◌}
use Rattle.dd_version.specs.declared.parts.Parts.{Parts}
use Rattle.dd_records.specs.declared.label.Label.{Label}
use Rattle.dd_records.specs.declared.level.Level.{Level}
use Rattle.dd_records.specs.declared.record.PlanRecord.{PlanRecord}
use Rattle.dd_layout.specs.Paths.{Path}
use Rattle.dd_layout.specs.Plans.{tree, level_of, least_below, file_of, at}

-- a record of this level, of the version with this index
abbrev pub bare_of : Level → ℕ → PlanRecord
bare_of level index = record { level = level; at = 0; next = 0; lower = 0; file = None; of = index }

-- the record of a path, of the version with this index
abbrev pub bare : Path → ℕ → PlanRecord
bare x index = bare_of (level_of x) index

abbrev pub bare_at : List Parts → Path → PlanRecord
bare_at versions x = bare x (least_below versions x)

-- the level of a record
abbrev pub level_in : PlanRecord → Level
level_in row = row.level

abbrev pub numbered_at : List Parts → Path → PlanRecord
numbered_at versions x = record (bare_at versions x) { file = file_of (tree versions) x }

abbrev pub placed_at : Label → List Parts → Path → PlanRecord
placed_at label versions x = record (numbered_at versions x) { at = at label versions x }

-- ---- records under another label

-- The offset of what stands at this one, where not `from` but `to` bytes stand before all records. What is smaller than
-- `from` is 0, which names no record and stays.
abbrev pub moved_offset : ℕ → ℕ → ℕ → ℕ
moved_offset from to offset = if nat_lt offset from then 0 else (offset - from) + to

abbrev pub moved_record : ℕ → ℕ → PlanRecord → PlanRecord
moved_record from to row =
    record row { at = moved_offset from to row.at; next = moved_offset from to row.next; lower = moved_offset from to row.lower }
