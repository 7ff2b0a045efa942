-- The keys and UIDs that a data set has, by the table.
use Rattle.std.specs.Prelude.{ℕ, List, [], ◌∷◌, Option, unwrap_or}
use Rattle.dd_elem.specs.declared.tag.Tag.{Tag}
pub use Rattle.dd_set.specs.Find.{content_value, element_value, value_at}
use Rattle.dd_encoding.specs.declared.meta.Meta.{Meta}
use Rattle.dd_keys.specs.Table.{KeyRow, charset_row, study_date_row, study_time_row, accession_row, modality_row}
use Rattle.dd_keys.specs.Table.{description_row, patient_name_row, patient_id_row, study_row, series_row, study_id_row}
use Rattle.dd_keys.specs.Table.{series_number_row, instance_number_row}
use Rattle.dd_version.specs.declared.keys.PatientKeys.{PatientKeys}
use Rattle.dd_version.specs.declared.keys.StudyKeys.{StudyKeys}
use Rattle.dd_version.specs.declared.keys.SeriesKeys.{SeriesKeys}
use Rattle.dd_version.specs.declared.parts.Parts.{Parts}

-- a value, and another one where it is empty
abbrev pub or_other : List ℕ → List ℕ → List ℕ
or_other [] other = other
or_other (byte ∷ value) other = byte ∷ value

-- ---- keys and UIDs by the value at each tag: bytes without their padding, and None where it is a sequence

module _ (value : Tag → Option (List ℕ)) where
  -- the key of a row
  abbrev pub key_by : KeyRow → List ℕ
  key_by row = or_other (unwrap_or (value row.tag) []) row.when_empty

  -- the UID at a tag
  abbrev pub uid_by : Tag → List ℕ
  uid_by tag = unwrap_or (value tag) []

  abbrev pub patient_by : PatientKeys
  patient_by = record { id = key_by patient_id_row; name = key_by patient_name_row; charset = key_by charset_row }

  abbrev pub study_by : StudyKeys
  study_by = record {
    uid = uid_by study_row.tag;
    date = key_by study_date_row;
    time = key_by study_time_row;
    accession = key_by accession_row;
    description = key_by description_row;
    id = key_by study_id_row;
    charset = key_by charset_row;
  }

  abbrev pub series_by : SeriesKeys
  series_by = record {
    uid = uid_by series_row.tag;
    modality = key_by modality_row;
    number = key_by series_number_row;
  }

  -- what a file with this digest and this meta information gives
  abbrev pub parts_by : List ℕ → Meta → Parts
  parts_by digest meta = record {
    digest = digest;
    patient = patient_by;
    study = study_by;
    series = series_by;
    number = key_by instance_number_row;
    class = meta.class;
    transfer = meta.transfer;
    instance = meta.instance;
  }
