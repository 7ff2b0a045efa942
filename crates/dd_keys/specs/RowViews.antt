-- Rows of the table, and the values that a data set has in all of them, as the code has both.
use Rattle.std.specs.Prelude.{ℕ, List}
use Rattle.dd_elem.specs.Key.{IsKey}
use Rattle.dd_encoding.specs.declared.meta.Meta.{Meta}
use Rattle.dd_version.specs.declared.keys.PatientKeys.{PatientKeys}
use Rattle.dd_version.specs.declared.keys.StudyKeys.{StudyKeys}
use Rattle.dd_version.specs.declared.keys.SeriesKeys.{SeriesKeys}
use Rattle.dd_version.specs.declared.parts.Parts.{Parts}
use Rattle.dd_keys.specs.declared.rows.UidRow.{UidRow as UidRowValue}
use Rattle.dd_keys.specs.declared.row_values.RowValues.{RowValues}
use Rattle.dd_keys.specs.Table.{KeyRow, UidRow, charset_row, study_date_row, study_time_row, accession_row}
use Rattle.dd_keys.specs.Table.{modality_row, description_row, patient_name_row, patient_id_row, study_id_row}
use Rattle.dd_keys.specs.Table.{series_number_row, instance_number_row}
use Rattle.dd_keys.specs.Values.{or_other}

abbrev pub uid_row_view : UidRowValue → UidRow
uid_row_view row = record { tag = row.tag; same_as = row.same_as }

-- ---- the values of the rows

-- the values of key rows are keys
pub record AreKeys (found : RowValues) : Type 0 where
  pub charset : IsKey found.charset.now
  pub study_date : IsKey found.study_date.now
  pub study_time : IsKey found.study_time.now
  pub accession : IsKey found.accession.now
  pub modality : IsKey found.modality.now
  pub description : IsKey found.description.now
  pub patient_name : IsKey found.patient_name.now
  pub patient_id : IsKey found.patient_id.now
  pub study_id : IsKey found.study_id.now
  pub series_number : IsKey found.series_number.now
  pub instance_number : IsKey found.instance_number.now

-- an empty value is replaced by the default of the row
abbrev pub key_from : KeyRow → List ℕ → List ℕ
key_from row value = or_other value row.when_empty

module _ (found : RowValues) where
  abbrev pub row_patient : PatientKeys
  row_patient = record {
    id = key_from patient_id_row found.patient_id.now;
    name = key_from patient_name_row found.patient_name.now;
    charset = key_from charset_row found.charset.now;
  }

  abbrev pub row_study : StudyKeys
  row_study = record {
    uid = found.study;
    date = key_from study_date_row found.study_date.now;
    time = key_from study_time_row found.study_time.now;
    accession = key_from accession_row found.accession.now;
    description = key_from description_row found.description.now;
    id = key_from study_id_row found.study_id.now;
    charset = key_from charset_row found.charset.now;
  }

  abbrev pub row_series : SeriesKeys
  row_series = record {
    uid = found.series;
    modality = key_from modality_row found.modality.now;
    number = key_from series_number_row found.series_number.now;
  }

  -- what a file with these values, this digest and this meta information gives
  abbrev pub row_parts : List ℕ → Meta → Parts
  row_parts digest meta = record {
    digest = digest;
    patient = row_patient;
    study = row_study;
    series = row_series;
    number = key_from instance_number_row found.instance_number.now;
    class = meta.class;
    transfer = meta.transfer;
    instance = meta.instance;
  }
