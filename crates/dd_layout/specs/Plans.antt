-- The plan of a directory: which records it has, where they stand, and what they name (PS3.3 sections F.3 and F.4,
-- PS3.10 section 8.2).
use Rattle.std.specs.Prelude.{ℕ, ◌+◌, List, [], ◌∷◌, map, Option, None, Some, slice_get, sum_by, if◌then◌else◌}
use Rattle.dd_elem.specs.FileId.{Ranks, ranks_of}
use Rattle.dd_version.specs.declared.parts.Parts.{Parts}
use Rattle.dd_records.specs.declared.label.Label.{Label}
use Rattle.dd_records.specs.declared.level.Level.{Level}
use Rattle.dd_records.specs.declared.level.Level.TheVariants.{Patient, Study, Series, Image}
use Rattle.dd_records.specs.declared.record.PlanRecord.{PlanRecord}
use Rattle.dd_records.specs.Directory.{first_offset}
use Rattle.dd_layout.specs.Paths.{Path, leads_to}
use Rattle.dd_records.specs.Records.{record_elements}
use Rattle.dd_records.specs.Sizes.{record_size}
use Rattle.dd_layout.specs.Tree.{tree_of, ranks_along, offset, next_sibling, first_child}
use Rattle.dd_records.specs.Withdrawals.{withdrawals_size}

-- ---- versions as paths

-- Patient ID, study UID, series UID, SOP Instance UID
abbrev pub path_of : Parts → Path
path_of version =
    version.patient.id ∷ version.study.uid ∷ version.series.uid ∷ version.instance ∷ []

-- the tree of these versions
abbrev pub tree : List Parts → List Path
tree versions = tree_of (map path_of versions)

-- the level of a path, by its parts
abbrev pub level_of : Path → Level
level_of [] = Patient
level_of (patient ∷ []) = Patient
level_of (patient ∷ study ∷ []) = Study
level_of (patient ∷ study ∷ series ∷ []) = Series
level_of (patient ∷ study ∷ series ∷ image ∷ path) = Image

-- of versions that rise by instance, the index of the least one below the path, or at it
abbrev pub least_below : List Parts → Path → ℕ
least_below [] x = 0
least_below (version ∷ versions) x = if leads_to x (path_of version) then 0 else 1 + least_below versions x

-- ---- records

-- the File ID of an image: its ranks and the ranks of what is above it
abbrev pub file_by : List ℕ → Option Ranks
file_by (patient ∷ study ∷ series ∷ image ∷ []) = Some (ranks_of patient study series image)
file_by ranks = None

abbrev pub file_of : List Path → Path → Option Ranks
file_of paths x = file_by (ranks_along paths x)

-- the size of the record with the keys of this version, which its links do not change
abbrev pub size_of : List Path → Path → Option Parts → ℕ
size_of paths x None = 0
size_of paths x (Some version) = record_size (record_elements (level_of x) 0 0 (file_of paths x) version)

abbrev pub record_size_at : List Parts → Path → ℕ
record_size_at versions x = size_of (tree versions) x (slice_get versions (least_below versions x))

-- the offset of the record of a path
abbrev pub at : Label → List Parts → Path → ℕ
at label versions x = offset (first_offset label) (record_size_at versions) (tree versions) x

-- the offset of a record that is there, and else 0
abbrev pub at_or_none : Label → List Parts → Option Path → ℕ
at_or_none label versions None = 0
at_or_none label versions (Some x) = at label versions x

-- the record of a path
abbrev pub record_at : Label → List Parts → Path → PlanRecord
record_at label versions x = record {
  level = level_of x;
  at = at label versions x;
  next = at_or_none label versions (next_sibling (tree versions) x);
  lower = at_or_none label versions (first_child (tree versions) x);
  file = file_of (tree versions) x;
  of = least_below versions x;
}

-- ---- the plan of versions that are in harmony and rise by instance

-- its records, in the order of their bytes: depth first
abbrev pub records_of : Label → List Parts → List PlanRecord
records_of label versions = map (record_at label versions) (tree versions)

-- the bytes up to the end of its records
abbrev pub records_end : Label → List Parts → ℕ
records_end label versions = first_offset label + sum_by (record_size_at versions) (tree versions)

-- the size of the directory, which names these withdrawn UIDs after its records
abbrev pub size : Label → List Parts → List (List ℕ) → ℕ
size label versions withdrawn = records_end label versions + withdrawals_size withdrawn
