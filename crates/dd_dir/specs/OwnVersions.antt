-- What a directory that is written here says of the images that it lists: their versions, and where their files are.
use Rattle.std.specs.Prelude.{◌≡◌, ◌≢◌, ◌⊎◌, ℕ, List, [], map, unwrap_or, Result, Ok, Err}
use Rattle.dd_version.specs.declared.keys.PatientKeys.{PatientKeys}
use Rattle.dd_version.specs.declared.keys.SeriesKeys.{SeriesKeys}
use Rattle.dd_version.specs.declared.keys.StudyKeys.{StudyKeys}
use Rattle.dd_version.specs.declared.parts.Parts.{Parts}
use Rattle.dd_records.specs.ElementForms.{tag}
use Rattle.dd_encoding.specs.Elements.{Elements}
use Rattle.dd_dir.specs.declared.own.Own.{Own}
use Rattle.dd_dir.specs.declared.own.Place.{Place as PlaceValue}
use Rattle.dd_dir.specs.declared.own_fault.OwnFault.{OwnFault}
use Rattle.dd_dir.specs.declared.own_fault.OwnFault.TheVariants.{BadWithdrawal, Memory}
use Rattle.dd_dir.specs.Own.{Listed, ListsFirst, own, root}
use Rattle.dd_walk.specs.Saying.{digest_in, key_of}
use Rattle.dd_walk.specs.Trees.{Walk}
use Rattle.dd_dir.specs.Withdrawn.{AreRisingUids}
use Rattle.dd_walk.specs.WithdrawnPieces.{withdrawn_of}

abbrev pub digest_of : Elements → List ℕ
digest_of set = unwrap_or (digest_in set) []

-- ---- versions

abbrev pub patient_in : Elements → PatientKeys
patient_in set = record {
  id = key_of (tag 0x0010 0x0020) set;
  name = key_of (tag 0x0010 0x0010) set;
  charset = key_of (tag 0x0008 0x0005) set;
}

abbrev pub study_in : Elements → StudyKeys
study_in set = record {
  uid = key_of (tag 0x0020 0x000d) set;
  date = key_of (tag 0x0008 0x0020) set;
  time = key_of (tag 0x0008 0x0030) set;
  accession = key_of (tag 0x0008 0x0050) set;
  description = key_of (tag 0x0008 0x1030) set;
  id = key_of (tag 0x0020 0x0010) set;
  charset = key_of (tag 0x0008 0x0005) set;
}

abbrev pub series_in : Elements → SeriesKeys
series_in set = record {
  uid = key_of (tag 0x0020 0x000e) set;
  modality = key_of (tag 0x0008 0x0060) set;
  number = key_of (tag 0x0020 0x0011) set;
}

-- the version of an image
abbrev pub version_of : Listed → Parts
version_of image = record {
  digest = digest_of image.own;
  patient = patient_in image.patient;
  study = study_in image.study;
  series = series_in image.series;
  number = key_of (tag 0x0020 0x0013) image.own;
  class = key_of (tag 0x0004 0x1510) image.own;
  transfer = key_of (tag 0x0004 0x1512) image.own;
  instance = key_of (tag 0x0004 0x1511) image.own;
}

-- ---- places

-- where the file of an image is: its SOP Instance UID, its digest, and its File ID
pub record Place : Type 0 where
  pub uid : List ℕ
  pub digest : List ℕ
  pub file : List ℕ

-- the File ID of an image
abbrev pub file_of : Listed → List ℕ
file_of image = key_of (tag 0x0004 0x1500) image.own

abbrev pub place_of : Listed → Place
place_of image = record {
  uid = key_of (tag 0x0004 0x1511) image.own;
  digest = digest_of image.own;
  file = file_of image;
}

abbrev pub place_view : PlaceValue → Place
place_view place = record { uid = place.uid; digest = place.digest; file = place.file.now }

-- ---- answers

-- it has of these images the versions and the File IDs, and these withdrawn UIDs
pub record Tells (uids : List (List ℕ)) (images : List Listed) (told : Own) : Type 0 where
  pub versions : told.versions.items ≡ map version_of images
  pub files : map (λ file. file.now) told.files.items ≡ map file_of images
  pub withdrawn : told.withdrawn.items ≡ uids

-- The answer where the records list these images, or fail by this fault: what the images give, or the fault. Memory
-- runs out only where it is wanted.
abbrev pub Answers : {B : Type 0} → Result (List Listed) OwnFault → Type 0 → (List Listed → B → Type 0)
    → Result B OwnFault → Type 0
Answers all IsWanted IsAnswer (Ok value) = (images : List Listed) × (all ≡ Ok images) × IsAnswer images value
Answers all IsWanted IsAnswer (Err Memory) = IsWanted
Answers all IsWanted IsAnswer (Err fault) = all ≡ Err fault

-- an image is listed before any record fails
abbrev pub ListsSome : Walk → Type 0
ListsSome walk = ListsFirst root walk.trees

-- or a UID is withdrawn
abbrev pub NamesSome : Walk → Type 0
NamesSome walk = ListsSome walk ⊎ (withdrawn_of walk ≢ [])

-- The answer to a walk, where memory is wanted only so. What names the withdrawn UIDs is checked before all records.
abbrev pub AnswersWalk : {B : Type 0} → Walk → Type 0 → (List Listed → B → Type 0) → Result B OwnFault → Type 0
AnswersWalk walk IsWanted IsAnswer (Err BadWithdrawal) = AreRisingUids (withdrawn_of walk) → ⊥
AnswersWalk walk IsWanted IsAnswer result =
    AreRisingUids (withdrawn_of walk) × Answers (own walk) IsWanted IsAnswer result

-- why this crate would not have written the directory: its withdrawn UIDs are no rising list of UIDs, or a record fails
-- a check
abbrev pub FailsOwn : Walk → OwnFault → Type 0
FailsOwn walk BadWithdrawal = AreRisingUids (withdrawn_of walk) → ⊥
FailsOwn walk fault = AreRisingUids (withdrawn_of walk) × (own walk ≡ Err fault)
