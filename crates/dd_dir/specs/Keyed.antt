-- Records of versions whose parts are well formed, so that they are read back from them.
use Rattle.std.specs.Prelude.{ℕ, ◌<◌, ◌^◌, List, length, All, Option, Some, None, slice_get}
use Rattle.std.specs.List.{AllByRecursion}
use Rattle.dd_elem.specs.SetId.{IsSetId}
use Rattle.dd_version.specs.declared.parts.Parts.{Parts}
use Rattle.dd_records.specs.declared.label.Label.{Label}
use Rattle.dd_records.specs.declared.record.PlanRecord.{PlanRecord}
use Rattle.dd_layout.specs.Layouts.{IsSound}
use Rattle.dd_layout.specs.Plans.{records_of, size}
use Rattle.dd_dir.specs.Directories.{IsDirectory}
use Rattle.dd_version.specs.WellFormed.{IsWellFormed}

-- the version that a record is of is well formed
abbrev pub IsKeyedBy : PlanRecord → Option Parts → Type 0
IsKeyedBy planned None = ⊥
IsKeyedBy planned (Some version) = IsWellFormed version

abbrev pub IsKeyed : List Parts → PlanRecord → Type 0
IsKeyed versions planned = IsKeyedBy planned (slice_get versions planned.of)

-- what is known of a directory that was sent whole
pub record IsSent (label : Label) (versions : List Parts) (withdrawn : List (List ℕ)) : Type 0 where
  pub file : IsDirectory label versions withdrawn
  pub id : IsSetId label.id
  pub small : size label versions withdrawn < 2 ^ 32
  pub sound : All (IsSound (length versions)) (records_of label versions)
  pub keyed : AllByRecursion (IsKeyed versions) (records_of label versions)
