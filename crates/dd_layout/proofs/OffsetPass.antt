-- The offsets of records by one pass from the front.
use Rattle.std.specs.Prelude.{ℕ, zero, suc, ◌+◌, List, [], ◌∷◌, Option, None, Some, slice_get, sum_by}
use Rattle.dd_version.specs.declared.parts.Parts.{Parts}
use Rattle.dd_records.specs.declared.label.Label.{Label}
use Rattle.dd_records.specs.declared.record.PlanRecord.{PlanRecord}
use Rattle.dd_records.specs.Directory.{first_offset}
use Rattle.dd_layout.specs.Paths.{Path}
use Rattle.dd_layout.specs.Plans.{record_size_at}
use Rattle.dd_records.specs.Records.{record_elements}
use Rattle.dd_records.specs.Sizes.{record_size}

-- the size of a record with the keys of this version, and with the keys of the version that it is of
abbrev pub weight_by : PlanRecord → Option Parts → ℕ
weight_by row None = 0
weight_by row (Some version) = record_size (record_elements row.level 0 0 row.file version)

abbrev pub weight : List Parts → PlanRecord → ℕ
weight versions row = weight_by row (slice_get versions row.of)

-- this many of these rows with their offsets, the first one at this offset, and the others as they are
abbrev pub placed_to : (PlanRecord → ℕ) → ℕ → ℕ → List PlanRecord → List PlanRecord
placed_to size zero at rows = rows
placed_to size (suc n) at [] = []
placed_to size (suc n) at (row ∷ rows) = record row { at = at } ∷ placed_to size n (at + size row) rows

-- where the first `n` of these rows end
abbrev pub end_of : (PlanRecord → ℕ) → ℕ → ℕ → List PlanRecord → ℕ
end_of size zero at rows = at
end_of size (suc n) at [] = at
end_of size (suc n) at (row ∷ rows) = end_of size n (at + size row) rows

-- where these first rows of the tree end: where the next row starts
abbrev pub end_at : Label → List Parts → List Path → ℕ
end_at label versions front = first_offset label + sum_by (record_size_at versions) front
