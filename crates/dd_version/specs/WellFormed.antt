-- The parts of a version are well formed, as their types say: each key is one, each UID is one, and the digest has 32
-- bytes.
use Rattle.std.specs.Prelude.{◌≡◌, length}
use Rattle.dd_elem.specs.Key.{IsKey}
use Rattle.dd_elem.specs.Uid.{IsUid}
use Rattle.dd_version.specs.Fitting.{Fits}
use Rattle.dd_version.specs.declared.keys.PatientKeys.{PatientKeys}
use Rattle.dd_version.specs.declared.keys.SeriesKeys.{SeriesKeys}
use Rattle.dd_version.specs.declared.keys.StudyKeys.{StudyKeys}
use Rattle.dd_version.specs.declared.parts.Parts.{Parts}

pub record IsWellFormedPatient (patient : PatientKeys) : Type 0 where
  pub id : IsKey patient.id
  pub name : IsKey patient.name
  pub charset : IsKey patient.charset

pub record IsWellFormedStudy (study : StudyKeys) : Type 0 where
  pub uid : IsUid study.uid
  pub date : IsKey study.date
  pub time : IsKey study.time
  pub accession : IsKey study.accession
  pub description : IsKey study.description
  pub id : IsKey study.id
  pub charset : IsKey study.charset

pub record IsWellFormedSeries (series : SeriesKeys) : Type 0 where
  pub uid : IsUid series.uid
  pub modality : IsKey series.modality
  pub number : IsKey series.number

pub record IsWellFormedImage (v : Parts) : Type 0 where
  pub digest : length v.digest ≡ 32
  pub number : IsKey v.number
  pub class : IsUid v.class
  pub transfer : IsUid v.transfer
  pub instance : IsUid v.instance

pub record IsWellFormed (v : Parts) : Type 0 where
  pub fits : Fits v
  pub patient : IsWellFormedPatient v.patient
  pub study : IsWellFormedStudy v.study
  pub series : IsWellFormedSeries v.series
  pub image : IsWellFormedImage v
