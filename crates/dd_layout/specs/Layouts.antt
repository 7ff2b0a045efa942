-- A plan: the label, the versions in harmony and the withdrawn UIDs, from which all else follows.
use Rattle.std.specs.Prelude.{◌≡◌, ◌<◌, ℕ, List, All, length}
use Rattle.dd_catalogue.specs.Harmony.{harmonised}
use Rattle.dd_version.specs.declared.parts.Parts.{Parts}
use Rattle.dd_records.specs.declared.label.Label.{Label}
use Rattle.dd_records.specs.declared.record.PlanRecord.{PlanRecord}
use Rattle.dd_layout.specs.Plans.{records_of, size}
use Rattle.dd_records.specs.Records.{IsFileOf}

pub record Layout : Type 0 where
  pub label : Label
  pub versions : List Parts
  pub withdrawn : List (List ℕ)

-- a record is of a version below this number, and has a File ID where it is of an image
abbrev pub IsSound : ℕ → PlanRecord → Type 0
IsSound count planned = (planned.of < count) × IsFileOf planned.level planned.file

-- its offset is smaller than this size of a directory, and so are those that it names, of which 0 names no record
pub record StandsWithin (bytes : ℕ) (planned : PlanRecord) : Type 0 where
  pub at : planned.at < bytes
  pub next : planned.next < bytes
  pub lower : planned.lower < bytes

-- under this label the versions have these records, and together with the withdrawn UIDs the directory has this size
pub record IsLaidOut (label : Label) (versions : List Parts) (withdrawn : List (List ℕ)) (planned : List PlanRecord)
    (bytes : ℕ) : Type 0 where
  pub records : planned ≡ records_of label versions
  pub size : bytes ≡ size label versions withdrawn
  pub sound : All (IsSound (length versions)) planned

-- what the versions and the withdrawn UIDs of a catalogue are laid out as
abbrev pub layout_of : Label → List Parts → List (List ℕ) → Layout
layout_of label m withdrawn = record { label = label; versions = harmonised m; withdrawn = withdrawn }
