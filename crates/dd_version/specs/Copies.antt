-- Where an equal copy may want memory: some key has more bytes than are held in place.
use Rattle.std.specs.Prelude.{◌<◌, ◌⊎◌, ℕ, List, [], ◌∷◌, length}
use Rattle.dd_elem.specs.KeyBytes.{most_in_place}
use Rattle.dd_version.specs.declared.keys.PatientKeys.{PatientKeys}
use Rattle.dd_version.specs.declared.keys.SeriesKeys.{SeriesKeys}
use Rattle.dd_version.specs.declared.keys.StudyKeys.{StudyKeys}
use Rattle.dd_version.specs.declared.parts.Parts.{Parts}

-- one of these keys has
abbrev pub HasLong : List (List ℕ) → Type 0
HasLong [] = ⊥
HasLong (key ∷ keys) = (most_in_place < length key) ⊎ HasLong keys

abbrev pub PatientIsLong : PatientKeys → Type 0
PatientIsLong keys = HasLong (keys.id ∷ keys.name ∷ keys.charset ∷ [])

abbrev pub StudyIsLong : StudyKeys → Type 0
StudyIsLong keys =
    HasLong (keys.date ∷ keys.time ∷ keys.accession ∷ keys.description ∷ keys.id ∷ keys.charset ∷ [])

abbrev pub SeriesIsLong : SeriesKeys → Type 0
SeriesIsLong keys = HasLong (keys.modality ∷ keys.number ∷ [])

abbrev pub PartsAreLong : Parts → Type 0
PartsAreLong parts = PatientIsLong parts.patient ⊎ StudyIsLong parts.study ⊎ SeriesIsLong parts.series
    ⊎ HasLong (parts.number ∷ [])

-- ---- copies with keys of others

-- these parts, with the keys of others' patient, study and series
abbrev pub with_keys_of : Parts → Parts → Parts → Parts → Parts
with_keys_of parts patient study series =
    record parts { patient = patient.patient; study = study.study; series = series.series }

-- ---- another digest

abbrev pub with_digest : Parts → List ℕ → Parts
with_digest parts digest = record parts { digest = digest }
