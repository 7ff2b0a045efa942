-- Versions of one image, and sets of versions that agree on them.
use Rattle.std.specs.Prelude.{◌≡◌, List, Contains}
use Rattle.dd_version.specs.declared.parts.Parts.{Parts}

-- Two versions of one image that differ at most in what they tell of its patient, its study and its series. They have
-- one path (PS3.3 section F.4), which is Patient ID and the UIDs of study, series and instance. They have one value of
-- each field of the image itself.
pub record IsSameImage (v w : Parts) : Type 0 where
  pub patient : v.patient.id ≡ w.patient.id
  pub study : v.study.uid ≡ w.study.uid
  pub series : v.series.uid ≡ w.series.uid
  pub instance : v.instance ≡ w.instance
  pub digest : v.digest ≡ w.digest
  pub number : v.number ≡ w.number
  pub class : v.class ≡ w.class
  pub transfer : v.transfer ≡ w.transfer

-- each version of either set has one of its image in the other
pub record HaveSameImages (m n : List Parts) : Type 0 where
  pub first : (v : Parts) → Contains m v → (w : Parts) × Contains n w × IsSameImage v w
  pub second : (w : Parts) → Contains n w → (v : Parts) × Contains m v × IsSameImage v w

-- a version of the one and a version of the other that have one instance are one version
abbrev pub Agree : List Parts → List Parts → Type 0
Agree m n = (v w : Parts) → Contains m v → Contains n w → v.instance ≡ w.instance → v ≡ w

-- any two of the sets agree, and each with itself, as a catalogue does
abbrev pub AllAgree : List (List Parts) → Type 0
AllAgree sets = (m n : List Parts) → Contains sets m → Contains sets n → Agree m n
