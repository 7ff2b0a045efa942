-- Harmony: versions of one patient, study or series have one tuple of its keys, the greatest one, taken whole.
use Rattle.std.specs.Prelude.{◌≡◌, ◌↔◌, ℕ, List, Contains, map, filter}
use Rattle.std.specs.List.{fold}
use Rattle.std.specs.Ordering.{is_eq}
use Rattle.std.specs.declared.cmp.Ordering.{Ordering}
use Rattle.dd_elem.specs.Ordered.{bytes_cmp}
use Rattle.dd_version.specs.Orders.{patient_cmp, study_cmp, series_cmp}
use Rattle.dd_version.specs.declared.parts.Parts.{Parts}
use Rattle.dd_version.specs.declared.keys.PatientKeys.{PatientKeys}
use Rattle.dd_version.specs.declared.keys.StudyKeys.{StudyKeys}
use Rattle.dd_version.specs.declared.keys.SeriesKeys.{SeriesKeys}
use Rattle.dd_catalogue.specs.Best.{greater, IsGreatest}
use Rattle.dd_catalogue.specs.Versions.{IsCatalogue}

-- ---- the tuples of a version

abbrev pub patient_of : Parts → PatientKeys
patient_of v = v.patient

abbrev pub study_of : Parts → StudyKeys
study_of v = v.study

abbrev pub series_of : Parts → SeriesKeys
series_of v = v.series

-- Patient ID
abbrev pub patient_key : PatientKeys → List ℕ
patient_key keys = keys.id

-- Study Instance UID
abbrev pub study_key : StudyKeys → List ℕ
study_key keys = keys.uid

-- Series Instance UID
abbrev pub series_key : SeriesKeys → List ℕ
series_key keys = keys.uid

-- ---- harmony as a relation

-- the greatest tuple like the version's: it has the key of the version's tuple, and is the greatest with that key among
-- the tuples of the set's versions
pub record IsGreatestLike {V T : Type 0} (tuple : V → T) (key : T → List ℕ) (order : T → T → Ordering)
    (m : List V) (v : V) (t : T) : Type 0 where
  pub like : key t ≡ key (tuple v)
  pub greatest : IsGreatest key order (map tuple m) t

-- w is v with the greatest tuples of its patient, its study and its series, and all else as v has it
pub record IsAgreed (m : List Parts) (v w : Parts) : Type 0 where
  pub patient : IsGreatestLike patient_of patient_key patient_cmp m v w.patient
  pub study : IsGreatestLike study_of study_key study_cmp m v w.study
  pub series : IsGreatestLike series_of series_key series_cmp m v w.series
  pub others : w ≡ record v { patient = w.patient; study = w.study; series = w.series }

-- rising by instance, and its members are exactly the versions of the set, each with its greatest tuples
pub record IsHarmonised (m n : List Parts) : Type 0 where
  pub rising : IsCatalogue n
  pub each : (w : Parts) → Contains n w ↔ ((v : Parts) × Contains m v × IsAgreed m v w)

-- ---- the same as functions

-- of the tuples that have the key of this version's tuple, the greatest
abbrev pub greatest_like : {V T : Type 0} → (V → T) → (T → List ℕ) → (T → T → Ordering) → List V → V → T
greatest_like tuple key order m v =
    fold (greater order) (tuple v) (map tuple (filter (λ w. is_eq (bytes_cmp (key (tuple w)) (key (tuple v)))) m))

-- a version with the greatest tuples of its patient, its study and its series
abbrev pub agreed : List Parts → Parts → Parts
agreed m v = record v {
  patient = greatest_like patient_of patient_key patient_cmp m v;
  study = greatest_like study_of study_key study_cmp m v;
  series = greatest_like series_of series_key series_cmp m v;
}

abbrev pub harmonised : List Parts → List Parts
harmonised m = map (agreed m) m
