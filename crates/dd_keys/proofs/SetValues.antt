-- The keys of a data set, and the parts of a version, by its value at each tag.
use Rattle.std.specs.Prelude.{ℕ, List, Option}
use Rattle.dd_elem.specs.declared.tag.Tag.{Tag}
use Rattle.dd_encoding.specs.Elements.{Elements}
use Rattle.dd_part10.specs.Reading.{FileParts}
use Rattle.dd_keys.specs.Table.{KeyRow}
use Rattle.dd_version.specs.declared.keys.PatientKeys.{PatientKeys}
use Rattle.dd_version.specs.declared.keys.StudyKeys.{StudyKeys}
use Rattle.dd_version.specs.declared.keys.SeriesKeys.{SeriesKeys}
use Rattle.dd_version.specs.declared.parts.Parts.{Parts}
use Rattle.dd_keys.specs.Values.{value_at, key_by, uid_by, patient_by, study_by, series_by, parts_by}

-- its value at each tag
abbrev pub values_of : Elements → Tag → Option (List ℕ)
values_of set tag = value_at tag set

abbrev pub key_in : KeyRow → Elements → List ℕ
key_in row set = key_by (values_of set) row

abbrev pub uid_in : Tag → Elements → List ℕ
uid_in tag set = uid_by (values_of set) tag

abbrev pub patient_in : Elements → PatientKeys
patient_in set = patient_by (values_of set)

abbrev pub study_in : Elements → StudyKeys
study_in set = study_by (values_of set)

abbrev pub series_in : Elements → SeriesKeys
series_in set = series_by (values_of set)

abbrev pub parts_in : List ℕ → FileParts → Parts
parts_in digest file = parts_by (values_of file.set) digest file.meta
