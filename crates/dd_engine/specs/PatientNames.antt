-- Patient IDs that stand with more than one Patient's Name in versions.
use Rattle.std.specs.Prelude.{◌≡◌, ◌≢◌, ◌<◌, ◌↔◌, Bool, false, ℕ, List, length, filter, All, Contains, Option, None}
use Rattle.std.specs.Prelude.{Some}
use Rattle.std.specs.List.Sorted.{IsStrictlySortedBy}
use Rattle.std.specs.Ordering.{flip_args}
use Rattle.std.specs.declared.cmp.Ordering.{Ordering}
use Rattle.dd_catalogue.specs.Conflicts.{same}
use Rattle.dd_catalogue.specs.Versions.{kept}
use Rattle.dd_elem.specs.Ordered.{bytes_cmp}
use Rattle.dd_version.specs.Orders.{by_bytes}
use Rattle.dd_version.specs.declared.parts.Parts.{Parts}

-- a Patient ID, and the Patient's Names that stand with it
pub record NamedPatient : Type 0 where
  pub id : List ℕ
  pub names : List (List ℕ)

-- the order of a patient's names: they fall, compared by their bytes
abbrev pub name_cmp : List ℕ → List ℕ → Ordering
name_cmp = flip_args bytes_cmp

-- one of the versions has this Patient ID and this Patient's Name
abbrev pub HasName : List Parts → List ℕ → List ℕ → Type 0
HasName versions id name = (v : Parts) × Contains versions v × (v.patient.id ≡ id) × (v.patient.name ≡ name)

-- the patient has more than one name; they fall, and are exactly the names that versions with its ID have
pub record HasItsNames (versions : List Parts) (patient : NamedPatient) : Type 0 where
  pub several : 1 < length patient.names
  pub falling : IsStrictlySortedBy name_cmp patient.names
  pub each : (name : List ℕ) → Contains patient.names name ↔ HasName versions patient.id name

-- the patients rise by Patient ID, each has its names, and each ID with two names is there. There is one such list at
-- most, since its members and their order are given.
pub record AreNamed (versions : List Parts) (patients : List NamedPatient) : Type 0 where
  pub rising : IsStrictlySortedBy (by_bytes (λ patient. patient.id)) patients
  pub own : All (HasItsNames versions) patients
  pub every : (id one other : List ℕ) → HasName versions id one → HasName versions id other → one ≢ other
      → (patient : NamedPatient) × Contains patients patient × (patient.id ≡ id)

-- ---- the versions whose names are noted

-- the kept version has the bytes of this one: their digests are the same
abbrev pub is_alike : Option Parts → Parts → Bool
is_alike None version = false
is_alike (Some one) version = same one.digest version.digest

-- of the versions that were read, those with the digest of the version that m keeps of their instance
abbrev pub with_kept_digest : List Parts → List Parts → List Parts
with_kept_digest m versions = filter (λ version. is_alike (kept m version.instance) version) versions
