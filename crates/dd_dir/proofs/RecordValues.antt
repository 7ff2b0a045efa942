-- The values that the elements of a record hold: its version's, without their padding.
use Rattle.std.proofs.Common.{◌≡◌, ℕ, Bool, true, false, cond, eqb, List, [], ◌∷◌, ◌++◌, length, Option, Some}
use Rattle.std.proofs.Common.{refl, ap, ◌∙◌, arith}
use Rattle.std.proofs.lemmas.Bool.{eqb-true}
use Rattle.dd_elem.specs.Clean.{clean_of}
use Rattle.dd_elem.specs.FileId.{AreRanks, Ranks, text_of}
use Rattle.dd_elem.specs.Key.{IsKey}
use Rattle.dd_elem.specs.Uid.{IsUid}
use Rattle.dd_elem.specs.declared.vr.Vr.TheVariants.{CS, DA, LO, PN, SH, TM}
use Rattle.dd_set.specs.Find.{value_at}
use Rattle.dd_version.specs.declared.keys.PatientKeys.{PatientKeys}
use Rattle.dd_version.specs.declared.keys.SeriesKeys.{SeriesKeys}
use Rattle.dd_version.specs.declared.keys.StudyKeys.{StudyKeys}
use Rattle.dd_version.specs.declared.parts.Parts.{Parts}
use Rattle.dd_records.specs.declared.level.Level.TheVariants.{Patient, Study, Series, Image}
use Rattle.dd_records.specs.declared.table.TheConstants as row
use Rattle.dd_records.specs.ElementForms.{tag, padded, text_element, uid_element}
use Rattle.dd_records.specs.Records.{kind_of, link_elements, record_elements}
use Rattle.dd_part10.proofs.HeadLaw.{clean_uid}
use Rattle.dd_encoding.specs.Elements.{Elements, elements_of}
use Rattle.dd_walk.specs.Saying.{digest_in, sized}
use Rattle.dd_version.specs.WellFormed.{IsWellFormedImage, IsWellFormedPatient, IsWellFormedSeries, IsWellFormedStudy}
use Rattle.dd_dir.proofs.FileTexts.{text_clean}
use Rattle.dd_dir.proofs.RecordsSay.{clean_of-padded}

-- a key, and a UID, without the padding that it was given
key_back : (key : List ℕ) → IsKey key → clean_of (padded 0x20 key) ≡ key
key_back key is = clean_of-padded 0x20 key refl ∙ is.clean

uid_back : (uid : List ℕ) → IsUid uid → clean_of (padded 0x00 uid) ≡ uid
uid_back uid is = clean_of-padded 0x00 uid refl ∙ clean_uid uid is

-- no bytes
empty_is : (v : List ℕ) → eqb (length v) 0 ≡ true → [] ≡ v
empty_is [] e = refl
empty_is (byte ∷ v) e = let none = eqb-true (length (byte ∷ v)) 0 e in absurd (omega arith)

-- ---- a patient

pub record PatientSays (set : Elements) (keys : PatientKeys) : Type 0 where
  pub charset : value_at row.CHARSET.tag set ≡ Some keys.charset
  pub name : value_at row.PATIENT_NAME.tag set ≡ Some keys.name
  pub id : value_at row.PATIENT_ID.tag set ≡ Some keys.id

pub patient_says : (next lower : ℕ) (file : Option Ranks) (parts : Parts) → IsWellFormedPatient parts.patient
    → PatientSays (elements_of (record_elements Patient next lower file parts)) parts.patient
patient_says next lower file parts formed = go (eqb (length parts.patient.charset) 0) refl where
  go : (b : Bool) → eqb (length parts.patient.charset) 0 ≡ b
      → PatientSays (elements_of (link_elements next lower (kind_of Patient)
      ++ (cond b [] (text_element (tag 0x0008 0x0005) CS parts.patient.charset ∷ [])
      ++ (text_element (tag 0x0010 0x0010) PN parts.patient.name ∷ text_element (tag 0x0010 0x0020) LO parts.patient.id
      ∷ [])))) parts.patient
  go true e = record {
    charset = ap (λ (v : List ℕ). Some v) (empty_is parts.patient.charset e);
    name = ap (λ (v : List ℕ). Some v) (key_back parts.patient.name formed.name);
    id = ap (λ (v : List ℕ). Some v) (key_back parts.patient.id formed.id);
  }
  go false e = record {
    charset = ap (λ (v : List ℕ). Some v) (key_back parts.patient.charset formed.charset);
    name = ap (λ (v : List ℕ). Some v) (key_back parts.patient.name formed.name);
    id = ap (λ (v : List ℕ). Some v) (key_back parts.patient.id formed.id);
  }

-- ---- a study

pub record StudySays (set : Elements) (keys : StudyKeys) : Type 0 where
  pub charset : value_at row.CHARSET.tag set ≡ Some keys.charset
  pub date : value_at row.STUDY_DATE.tag set ≡ Some keys.date
  pub time : value_at row.STUDY_TIME.tag set ≡ Some keys.time
  pub accession : value_at row.ACCESSION.tag set ≡ Some keys.accession
  pub description : value_at row.DESCRIPTION.tag set ≡ Some keys.description
  pub uid : value_at row.STUDY_UID.tag set ≡ Some keys.uid
  pub id : value_at row.STUDY_ID.tag set ≡ Some keys.id

pub study_says : (next lower : ℕ) (file : Option Ranks) (parts : Parts) → IsWellFormedStudy parts.study
    → StudySays (elements_of (record_elements Study next lower file parts)) parts.study
study_says next lower file parts formed = go (eqb (length parts.study.charset) 0) refl where
  go : (b : Bool) → eqb (length parts.study.charset) 0 ≡ b
      → StudySays (elements_of (link_elements next lower (kind_of Study)
      ++ (cond b [] (text_element (tag 0x0008 0x0005) CS parts.study.charset ∷ [])
      ++ (text_element (tag 0x0008 0x0020) DA parts.study.date ∷ text_element (tag 0x0008 0x0030) TM parts.study.time
      ∷ text_element (tag 0x0008 0x0050) SH parts.study.accession
      ∷ text_element (tag 0x0008 0x1030) LO parts.study.description ∷ uid_element (tag 0x0020 0x000d) parts.study.uid
      ∷ text_element (tag 0x0020 0x0010) SH parts.study.id ∷ [])))) parts.study
  go true e = record {
    charset = ap (λ (v : List ℕ). Some v) (empty_is parts.study.charset e);
    date = ap (λ (v : List ℕ). Some v) (key_back parts.study.date formed.date);
    time = ap (λ (v : List ℕ). Some v) (key_back parts.study.time formed.time);
    accession = ap (λ (v : List ℕ). Some v) (key_back parts.study.accession formed.accession);
    description = ap (λ (v : List ℕ). Some v) (key_back parts.study.description formed.description);
    uid = ap (λ (v : List ℕ). Some v) (uid_back parts.study.uid formed.uid);
    id = ap (λ (v : List ℕ). Some v) (key_back parts.study.id formed.id);
  }
  go false e = record {
    charset = ap (λ (v : List ℕ). Some v) (key_back parts.study.charset formed.charset);
    date = ap (λ (v : List ℕ). Some v) (key_back parts.study.date formed.date);
    time = ap (λ (v : List ℕ). Some v) (key_back parts.study.time formed.time);
    accession = ap (λ (v : List ℕ). Some v) (key_back parts.study.accession formed.accession);
    description = ap (λ (v : List ℕ). Some v) (key_back parts.study.description formed.description);
    uid = ap (λ (v : List ℕ). Some v) (uid_back parts.study.uid formed.uid);
    id = ap (λ (v : List ℕ). Some v) (key_back parts.study.id formed.id);
  }

-- ---- a series

pub record SeriesSays (set : Elements) (keys : SeriesKeys) : Type 0 where
  pub modality : value_at row.MODALITY.tag set ≡ Some keys.modality
  pub uid : value_at row.SERIES_UID.tag set ≡ Some keys.uid
  pub number : value_at row.SERIES_NUMBER.tag set ≡ Some keys.number

pub series_says : (next lower : ℕ) (file : Option Ranks) (parts : Parts) → IsWellFormedSeries parts.series
    → SeriesSays (elements_of (record_elements Series next lower file parts)) parts.series
series_says next lower file parts formed = record {
  modality = ap (λ (v : List ℕ). Some v) (key_back parts.series.modality formed.modality);
  uid = ap (λ (v : List ℕ). Some v) (uid_back parts.series.uid formed.uid);
  number = ap (λ (v : List ℕ). Some v) (key_back parts.series.number formed.number);
}

-- ---- an image

pub record ImageSays (set : Elements) (file : List ℕ) (parts : Parts) : Type 0 where
  pub file_id : value_at row.FILE.tag set ≡ Some file
  pub class : value_at row.CLASS.tag set ≡ Some parts.class
  pub instance : value_at row.INSTANCE.tag set ≡ Some parts.instance
  pub transfer : value_at row.TRANSFER.tag set ≡ Some parts.transfer
  pub number : value_at row.NUMBER.tag set ≡ Some parts.number
  pub digest : digest_in set ≡ Some parts.digest

sized_is : (v : List ℕ) → length v ≡ 32 → sized v ≡ Some v
sized_is v is = rw is refl

pub image_says : (next lower : ℕ) (ranks : Ranks) (parts : Parts) → AreRanks ranks → IsWellFormedImage parts
    → ImageSays (elements_of (record_elements Image next lower (Some ranks) parts)) (text_of ranks) parts
image_says next lower ranks parts are formed = record {
  file_id = ap (λ (v : List ℕ). Some v) (clean_of-padded 0x20 (text_of ranks) refl ∙ text_clean ranks are);
  class = ap (λ (v : List ℕ). Some v) (uid_back parts.class formed.class);
  instance = ap (λ (v : List ℕ). Some v) (uid_back parts.instance formed.instance);
  transfer = ap (λ (v : List ℕ). Some v) (uid_back parts.transfer formed.transfer);
  number = ap (λ (v : List ℕ). Some v) (key_back parts.number formed.number);
  digest = sized_is parts.digest formed.digest;
}
