-- What the elements of a record say: its links, that it is in use, its type, and the key by which it is known.
use Rattle.std.proofs.Common.{◌≡◌, ℕ, ◌<◌, ◌%◌, ◌^◌, Bool, true, false, cond, eqb, List, [], ◌∷◌, ◌++◌, length}
use Rattle.std.proofs.Common.{Option, Some, refl, ap₂, ◌∙◌}
use Rattle.std.proofs.lemmas.Nat.{from_le_bytes-to_le_bytes_4}
use Rattle.dd_elem.specs.Clean.{clean_of, is_padding}
use Rattle.dd_elem.specs.FileId.{Ranks}
use Rattle.dd_elem.specs.declared.vr.Vr.TheVariants.{CS, DA, LO, PN, SH, TM}
use Rattle.dd_elem.proofs.Cleaning.{clean_of_push_padding}
use Rattle.dd_version.specs.declared.parts.Parts.{Parts}
use Rattle.dd_encoding.specs.Elements.{elements_of}
use Rattle.dd_records.specs.declared.level.Level.{Level}
use Rattle.dd_records.specs.declared.level.Level.TheVariants.{Patient, Study, Series, Image}
use Rattle.dd_records.specs.ElementForms.{tag, padded, text_element, uid_element}
use Rattle.dd_records.specs.Records.{kind_of, link_elements, record_elements}
use Rattle.dd_walk.specs.Saying.{key_of, links_by, links_in}

-- ---- links, flag and type

pub record_says : (level : Level) (next lower : ℕ) (file : Option Ranks) (parts : Parts) → next < 2 ^ 32
    → lower < 2 ^ 32
    → links_in (elements_of (record_elements level next lower file parts))
    ≡ Some (record { next = next; lower = lower; in_use = true; kind = kind_of level })
unfolding links_in
record_says Patient next lower file parts small small' =
    ap₂ (λ (a b : ℕ). links_by (Some a) (Some true) (Some b) (Some (kind_of Patient)))
    (from_le_bytes-to_le_bytes_4 next small) (from_le_bytes-to_le_bytes_4 lower small')
record_says Study next lower file parts small small' =
    ap₂ (λ (a b : ℕ). links_by (Some a) (Some true) (Some b) (Some (kind_of Study)))
    (from_le_bytes-to_le_bytes_4 next small) (from_le_bytes-to_le_bytes_4 lower small')
record_says Series next lower file parts small small' =
    ap₂ (λ (a b : ℕ). links_by (Some a) (Some true) (Some b) (Some (kind_of Series)))
    (from_le_bytes-to_le_bytes_4 next small) (from_le_bytes-to_le_bytes_4 lower small')
record_says Image next lower file parts small small' =
    ap₂ (λ (a b : ℕ). links_by (Some a) (Some true) (Some b) (Some (kind_of Image)))
    (from_le_bytes-to_le_bytes_4 next small) (from_le_bytes-to_le_bytes_4 lower small')

-- ---- keys

-- padding goes again
pub clean_of-padded : (pad : ℕ) (v : List ℕ) → is_padding pad ≡ true → clean_of (padded pad v) ≡ clean_of v
clean_of-padded pad v is = go (eqb (length v % 2) 0) where
  go : (b : Bool) → clean_of (cond b v (v ++ pad ∷ [])) ≡ clean_of v
  go true = refl
  go false = clean_of_push_padding v pad is

-- the keys of a patient and of a study stand after a character set, where there is one
patient_key : (next lower : ℕ) (file : Option Ranks) (parts : Parts)
    → key_of (tag 0x0010 0x0020) (elements_of (record_elements Patient next lower file parts))
    ≡ clean_of (padded 0x20 parts.patient.id)
patient_key next lower file parts = go (eqb (length parts.patient.charset) 0) where
  go : (b : Bool) → key_of (tag 0x0010 0x0020) (elements_of (link_elements next lower (kind_of Patient)
      ++ (cond b [] (text_element (tag 0x0008 0x0005) CS parts.patient.charset ∷ [])
      ++ (text_element (tag 0x0010 0x0010) PN parts.patient.name ∷ text_element (tag 0x0010 0x0020) LO parts.patient.id
      ∷ [])))) ≡ clean_of (padded 0x20 parts.patient.id)
  go true = refl
  go false = refl

study_key : (next lower : ℕ) (file : Option Ranks) (parts : Parts)
    → key_of (tag 0x0020 0x000d) (elements_of (record_elements Study next lower file parts))
    ≡ clean_of (padded 0x00 parts.study.uid)
study_key next lower file parts = go (eqb (length parts.study.charset) 0) where
  go : (b : Bool) → key_of (tag 0x0020 0x000d) (elements_of (link_elements next lower (kind_of Study)
      ++ (cond b [] (text_element (tag 0x0008 0x0005) CS parts.study.charset ∷ [])
      ++ (text_element (tag 0x0008 0x0020) DA parts.study.date ∷ text_element (tag 0x0008 0x0030) TM parts.study.time
      ∷ text_element (tag 0x0008 0x0050) SH parts.study.accession
      ∷ text_element (tag 0x0008 0x1030) LO parts.study.description ∷ uid_element (tag 0x0020 0x000d) parts.study.uid
      ∷ text_element (tag 0x0020 0x0010) SH parts.study.id ∷ [])))) ≡ clean_of (padded 0x00 parts.study.uid)
  go true = refl
  go false = refl

-- keys without padding are read whole
pub patient_is : (next lower : ℕ) (file : Option Ranks) (parts : Parts)
    → clean_of parts.patient.id ≡ parts.patient.id
    → key_of (tag 0x0010 0x0020) (elements_of (record_elements Patient next lower file parts)) ≡ parts.patient.id
patient_is next lower file parts clean =
    patient_key next lower file parts ∙ clean_of-padded 0x20 parts.patient.id refl ∙ clean

pub study_is : (next lower : ℕ) (file : Option Ranks) (parts : Parts)
    → clean_of parts.study.uid ≡ parts.study.uid
    → key_of (tag 0x0020 0x000d) (elements_of (record_elements Study next lower file parts)) ≡ parts.study.uid
study_is next lower file parts clean =
    study_key next lower file parts ∙ clean_of-padded 0x00 parts.study.uid refl ∙ clean

pub series_is : (next lower : ℕ) (file : Option Ranks) (parts : Parts)
    → clean_of parts.series.uid ≡ parts.series.uid
    → key_of (tag 0x0020 0x000e) (elements_of (record_elements Series next lower file parts)) ≡ parts.series.uid
series_is next lower file parts clean = clean_of-padded 0x00 parts.series.uid refl ∙ clean

pub image_is : (next lower : ℕ) (file : Option Ranks) (parts : Parts)
    → clean_of parts.instance ≡ parts.instance
    → key_of (tag 0x0004 0x1511) (elements_of (record_elements Image next lower file parts)) ≡ parts.instance
image_is next lower file parts clean = clean_of-padded 0x00 parts.instance refl ∙ clean
