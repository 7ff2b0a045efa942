-- What a file of a version is: a relation between a file's bytes and the parts of the version. These are its digest and
-- the keys of the records of a directory (PS3.3 section F.5).
use Rattle.std.specs.Prelude.{◌≡◌, ◌≤◌, ℕ, List, length, Contains, Some}
use Rattle.sha2.specs.Sha256.{sha256}
use Rattle.dd_elem.specs.Key.{max_key_length}
use Rattle.dd_elem.specs.Uid.{IsUid}
use Rattle.dd_elem.specs.declared.tag.Tag.{Tag}
use Rattle.dd_encoding.specs.Elements.{Elements}
use Rattle.dd_part10.specs.File.{IsFile}
use Rattle.dd_encoding.specs.declared.meta.Meta.{Meta}
use Rattle.dd_version.specs.Classes.{image_classes}
use Rattle.dd_keys.specs.Table.{KeyRow, charset_row, class_row, instance_row, study_date_row, study_time_row}
use Rattle.dd_keys.specs.Table.{accession_row, modality_row, description_row, patient_name_row, patient_id_row}
use Rattle.dd_keys.specs.Table.{study_row, series_row, study_id_row, series_number_row, instance_number_row}
use Rattle.dd_keys.specs.Values.{value_at, or_other}
use Rattle.dd_version.specs.declared.keys.PatientKeys.{PatientKeys}
use Rattle.dd_version.specs.declared.keys.StudyKeys.{StudyKeys}
use Rattle.dd_version.specs.declared.keys.SeriesKeys.{SeriesKeys}
use Rattle.dd_version.specs.declared.parts.Parts.{Parts}

-- the key is the data set's value at the row's tag, of at most 1,024 bytes, or what stands for an empty value
pub record HasKey (set : Elements) (row : KeyRow) (key : List ℕ) : Type 0 where
  pub value : List ℕ
  pub held : value_at row.tag set ≡ Some value
  pub short : length value ≤ max_key_length
  pub is : key ≡ or_other value row.when_empty

-- the UID is the data set's value at the tag
pub record HasUid (set : Elements) (tag : Tag) (uid : List ℕ) : Type 0 where
  pub held : value_at tag set ≡ Some uid
  pub valid : IsUid uid

pub record HasPatient (set : Elements) (patient : PatientKeys) : Type 0 where
  pub id : HasKey set patient_id_row patient.id
  pub name : HasKey set patient_name_row patient.name
  pub charset : HasKey set charset_row patient.charset

pub record HasStudy (set : Elements) (study : StudyKeys) : Type 0 where
  pub uid : HasUid set study_row.tag study.uid
  pub date : HasKey set study_date_row study.date
  pub time : HasKey set study_time_row study.time
  pub accession : HasKey set accession_row study.accession
  pub description : HasKey set description_row study.description
  pub id : HasKey set study_id_row study.id
  pub charset : HasKey set charset_row study.charset

pub record HasSeries (set : Elements) (series : SeriesKeys) : Type 0 where
  pub uid : HasUid set series_row.tag series.uid
  pub modality : HasKey set modality_row series.modality
  pub number : HasKey set series_number_row series.number

-- The bytes are a file of an image class that is taken. Its data set has the keys of the version. Its class and
-- instance stand in group 0002 and again in the data set. The digest is the SHA-256 of all its bytes.
pub record IsVersion (file : List ℕ) (version : Parts) : Type 0 where
  pub meta : Meta
  pub set : Elements
  pub set_at : ℕ
  pub is_file : IsFile file meta set set_at
  pub image : Contains image_classes meta.class
  pub digest : version.digest ≡ sha256 file
  pub patient : HasPatient set version.patient
  pub study : HasStudy set version.study
  pub series : HasSeries set version.series
  pub number : HasKey set instance_number_row version.number
  pub class : version.class ≡ meta.class
  pub class_again : HasUid set class_row.tag meta.class
  pub transfer : version.transfer ≡ meta.transfer
  pub instance : version.instance ≡ meta.instance
  pub instance_again : HasUid set instance_row.tag meta.instance
