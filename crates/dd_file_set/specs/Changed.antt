-- What it rests on that a file is said to have changed.
use Rattle.std.specs.Prelude.{◌≡◌, ◌≤◌, ◌⊎◌, ◌^◌, ℕ, List, Contains, IfSome, IsSomeAnd, Option, Some, length}
use Rattle.std.specs.Prelude.{IsSome, slice_get}
use Rattle.dd_files.specs.Files.{Held}
use Rattle.dd_filing.specs.Filing.{IsFileAs}
use Rattle.dd_filing.specs.declared.agreeing.Filed.TheVariants.{AsPlanned}
use Rattle.dd_records.specs.declared.record.PlanRecord.{PlanRecord}
use Rattle.dd_version.specs.declared.parts.Parts.{Parts}
use Rattle.dd_faults.specs.declared.refusal.ProgramFault.{ProgramFault}
use Rattle.dd_faults.specs.declared.refusal.ProgramFault.TheVariants.{Changed}

-- where the fault is that a file has changed, this is so
abbrev pub IfChanged : Type 0 → ProgramFault → Type 0
IfChanged Is Changed = Is
IfChanged Is fault = Unit {0}

-- An image of the planned version is not made of these bytes: they are too many or no file of it, or not of the version
-- that is said, or a hard link, where images get some, may not have them.
abbrev pub IsUnfit : Parts → Option Parts → Type 0 → (List ℕ → Type 0) → List ℕ → Type 0
IsUnfit planned said GivesLinks MayLink bytes =
    (2 ^ 32 ≤ length bytes) ⊎ ((¬ IsFileAs planned said AsPlanned bytes) ⊎ (GivesLinks × ¬ MayLink bytes))

-- a file at one of these paths has such bytes, where the files say what they hold
pub record HasUnfit (From MayLink : List ℕ → Type 0) (said : Option Parts) (GivesLinks : Type 0) (planned : Parts)
    (files : Option Held)
    : Type 0 where
  pub from : List ℕ
  pub picked : From from
  pub unfit : IfSome files (λ held. IsSomeAnd (held.bytes_at from) (IsUnfit planned said GivesLinks MayLink))

-- so has that of this record, beside the version that is planned there
pub record HasUnfitRow (From MayLink : List ℕ → Type 0) (said : Option Parts) (GivesLinks : Type 0)
    (versions : List Parts) (row : PlanRecord)
    (files : Option Held) : Type 0 where
  pub planned : Parts
  pub of : slice_get versions row.of ≡ Some planned
  pub has : HasUnfit From MayLink said GivesLinks planned files

-- so has that of one of these records, each with its pick
pub record HasUnfitPick {P : Type 0} (From MayLink : P → List ℕ → Type 0) (said : P → Option Parts)
    (GivesLinks : Type 0) (versions : List Parts)
    (rows : List (PlanRecord × P)) (files : Option Held) : Type 0 where
  pub row : PlanRecord × P
  pub among : Contains rows row
  pub has : HasUnfitRow (From row.1) (MayLink row.1) (said row.1) GivesLinks versions row.0 files

-- so has the first pick, which is that of this record
pub record HasUnfitFirst {P : Type 0} (From MayLink : P → List ℕ → Type 0) (said : P → Option Parts)
    (GivesLinks : Type 0) (versions : List Parts)
    (row : PlanRecord) (picks : List P) (files : Option Held) : Type 0 where
  pub file : IsSome row.file
  pub pick : P
  pub first : slice_get picks 0 ≡ Some pick
  pub has : HasUnfitRow (From pick) (MayLink pick) (said pick) GivesLinks versions row files
