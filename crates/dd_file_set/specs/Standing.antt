-- What the files hold once a file-set was made: its images, its directory, and what stood there before.
use Rattle.std.specs.Prelude.{◌≡◌, ◌≢◌, ◌⊎◌, ℕ, List, [], ◌∷◌, filter, zip, None, Some, is_some, codes, Option}
use Rattle.std.specs.Prelude.{slice_get}
use Rattle.dd_dir.specs.Directories.{directory_of}
use Rattle.dd_elem.specs.FileId.{Ranks}
use Rattle.dd_files.specs.Files.{Held}
use Rattle.dd_files.specs.Keeping.{KeepsAll}
use Rattle.dd_files.specs.Paths.{IsPathIn}
use Rattle.dd_files.specs.PowerCuts.{IsAllStored}
use Rattle.dd_filing.specs.declared.agreeing.Filed.TheVariants.{AsPlanned}
use Rattle.dd_filing.specs.Filing.{IsFileAs}
use Rattle.dd_version.specs.declared.parts.Parts.{Parts}
use Rattle.dd_records.specs.declared.record.PlanRecord.{PlanRecord}
use Rattle.dd_layout.specs.Layouts.{Layout}
use Rattle.dd_layout.specs.Plans.{records_of}
use Rattle.dd_file_set.specs.Made.{HasAtOne, IsPlace, RealisesPlan, SaysPlan}

-- The image of this record stands at its File ID in the folder, where no file stood. It has the bytes of a file at one of
-- these paths. They are a file of the version that is planned there, wholly of the one that is said, or such as a hard
-- link may have.
pub record Stands (From MayLink : List ℕ → Type 0) (said : Option Parts) (folder : List ℕ) (versions : List Parts)
    (row : PlanRecord)
    (old new : Held) : Type 0 where
  pub file : Ranks
  pub named : row.file ≡ Some file
  pub planned : Parts
  pub of : slice_get versions row.of ≡ Some planned
  pub path : List ℕ
  pub place : IsPlace folder file path
  pub free : old.bytes_at path ≡ None
  pub bytes : List ℕ
  pub image : new.bytes_at path ≡ Some bytes
  pub of_pick : HasAtOne From bytes (Some new)
  pub is : IsFileAs planned said AsPlanned bytes ⊎ MayLink bytes

-- so do the images of all these records, each with its pick
abbrev pub AllStand : {P : Type 0} → (P → List ℕ → Type 0) → (P → List ℕ → Type 0) → (P → Option Parts) → List ℕ
    → List Parts
    → List (PlanRecord × P) → Held → Held → Type 0
AllStand From MayLink said folder versions [] old new = Unit {0}
AllStand From MayLink said folder versions (row ∷ rows) old new =
    Stands (From row.1) (MayLink row.1) (said row.1) folder versions row.0 old new
    × AllStand From MayLink said folder versions rows old new

-- the image of this record belongs at this path
pub record BelongsAt (folder : List ℕ) (row : PlanRecord) (path : List ℕ) : Type 0 where
  pub file : Ranks
  pub named : row.file ≡ Some file
  pub place : IsPlace folder file path

-- the image of one of these records does
abbrev pub IsOfOne : {P : Type 0} → List ℕ → List (PlanRecord × P) → List ℕ → Type 0
IsOfOne folder [] path = ⊥
IsOfOne folder (row ∷ rows) path = BelongsAt folder row.0 path ⊎ IsOfOne folder rows path

-- the records with a file, each with its pick
abbrev pub picked_rows : {P : Type 0} → Layout → List P → List (PlanRecord × P)
picked_rows plan picks = zip (filter (λ row. is_some row.file) (records_of plan.label plan.versions)) picks

-- The file-set of this plan stands in the folder: all its images and its directory (PS3.10 section 8.6). What stood
-- before is as it was, nothing else was made, and all is stored.
pub record StandsWhole {P : Type 0} (From MayLink : P → List ℕ → Type 0) (said : P → Option Parts) (folder : List ℕ)
    (plan : Layout)
    (picks : List P) (old new : Held) : Type 0 where
  pub stays : KeepsAll old new
  pub images : AllStand From MayLink said folder plan.versions (picked_rows plan picks) old new
  pub path : List ℕ
  pub place : IsPathIn folder (codes "DICOMDIR") path
  pub free : old.bytes_at path ≡ None
  pub directory : new.bytes_at path ≡ Some (directory_of plan.label plan.versions plan.withdrawn)
  pub visited : RealisesPlan plan
  pub again : SaysPlan plan
  pub others : (other : List ℕ) → path ≢ other → ¬ IsOfOne folder (picked_rows plan picks) other
      → new.bytes_at other ≡ old.bytes_at other
  pub stored : IsAllStored old new
