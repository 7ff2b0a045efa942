-- The links of records by one pass from the back.
use Rattle.std.specs.Prelude.{ℕ, zero, suc, List, [], ◌∷◌}
use Rattle.dd_version.specs.declared.parts.Parts.{Parts}
use Rattle.dd_records.specs.declared.label.Label.{Label}
use Rattle.dd_layout.specs.declared.links.Later.{Later}
use Rattle.dd_records.specs.declared.record.PlanRecord.{PlanRecord}
use Rattle.dd_layout.specs.Linking.{later_from, lower_of, next_of}
use Rattle.dd_layout.specs.Neighbours.{scan}
use Rattle.dd_layout.specs.Paths.{Path}
use Rattle.dd_layout.specs.Plans.{at_or_none}

-- no record
abbrev pub none_later : Later
none_later = record { patient = 0; study = 0; series = 0; image = 0 }

-- what stands in these rows
abbrev pub later_of : List PlanRecord → Later
later_of [] = none_later
later_of (row ∷ rows) = later_from row.level row.at (later_of rows)

-- the rows with their links
abbrev pub with_links : PlanRecord → Later → PlanRecord
with_links row later = record row { next = next_of row.level later; lower = lower_of row.level later }

abbrev pub linked : List PlanRecord → List PlanRecord
linked [] = []
linked (row ∷ rows) = with_links row (later_of rows) ∷ linked rows

-- the same from the row with this place on
abbrev pub linked_after : ℕ → List PlanRecord → List PlanRecord
linked_after zero rows = linked rows
linked_after (suc n) [] = []
linked_after (suc n) (row ∷ rows) = row ∷ linked_after n rows

-- what stands in the rows after the first `n`
abbrev pub later_after : ℕ → List PlanRecord → Later
later_after zero rows = later_of rows
later_after (suc n) [] = none_later
later_after (suc n) (row ∷ rows) = later_after n rows

-- ---- the same by paths

-- the offset of the first of these rows with this many parts, if none before it has fewer
abbrev pub found : Label → List Parts → ℕ → List Path → ℕ
found label versions n rest = at_or_none label versions (scan n rest)

-- what stands in these rows of the tree
abbrev pub found_later : Label → List Parts → List Path → Later
found_later label versions rest = record {
  patient = found label versions 1 rest;
  study = found label versions 2 rest;
  series = found label versions 3 rest;
  image = found label versions 4 rest;
}
