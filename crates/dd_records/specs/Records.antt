-- The records of a directory: the elements of each, level by level (PS3.3 section F.3.2.2 and annex F.5).
use Rattle.std.specs.Prelude.{◌≡◌, IsSomeAnd, ℕ, List, [], ◌∷◌, ◌++◌, length, Option, Some, None, codes}
use Rattle.std.specs.Prelude.{if◌then◌else◌, ◌==◌, ◌-◌}
use Rattle.dd_elem.specs.FileId.{Ranks, AreRanks, text_of}
use Rattle.dd_elem.specs.declared.vr.Vr.TheVariants.{CS, DA, IS, LO, OB, PN, SH, TM}
use Rattle.dd_version.specs.declared.parts.Parts.{Parts}
use Rattle.dd_version.specs.declared.keys.PatientKeys.{PatientKeys}
use Rattle.dd_version.specs.declared.keys.SeriesKeys.{SeriesKeys}
use Rattle.dd_version.specs.declared.keys.StudyKeys.{StudyKeys}
use Rattle.dd_encoding.specs.declared.syntax.Length.TheVariants.{Defined}
use Rattle.dd_encoding.specs.declared.syntax.Syntax.TheVariants.{Explicit}
use Rattle.dd_encoding.specs.Elements.{Element, Item, elements_of}
use Rattle.dd_encoding.specs.Spelling.{AreElements, max_levels}
use Rattle.dd_records.specs.declared.level.Level.{Level}
use Rattle.dd_records.specs.declared.level.Level.TheVariants.{Patient, Study, Series, Image}
use Rattle.dd_records.specs.ElementForms.{tag, bytes_element, text_element, uid_element, long_element, short_element}

-- what each record begins with: the offset of the next one of its level, the in-use flag, the offset of the
-- first one below, and its type
abbrev pub link_elements : ℕ → ℕ → List ℕ → List Element
link_elements next lower kind =
    long_element (tag 0x0004 0x1400) next ∷ short_element (tag 0x0004 0x1410) 0xffff
    ∷ long_element (tag 0x0004 0x1420) lower
    ∷ text_element (tag 0x0004 0x1430) CS kind ∷ []

-- the Specific Character Set, where there is one
abbrev pub charset_elements : List ℕ → List Element
charset_elements charset = if length charset == 0 then [] else text_element (tag 0x0008 0x0005) CS charset ∷ []

abbrev pub patient_elements : PatientKeys → List Element
patient_elements keys = charset_elements keys.charset
    ++ (text_element (tag 0x0010 0x0010) PN keys.name ∷ text_element (tag 0x0010 0x0020) LO keys.id ∷ [])

abbrev pub study_elements : StudyKeys → List Element
study_elements keys = charset_elements keys.charset ++ (
    text_element (tag 0x0008 0x0020) DA keys.date ∷ text_element (tag 0x0008 0x0030) TM keys.time
    ∷ text_element (tag 0x0008 0x0050) SH keys.accession
    ∷ text_element (tag 0x0008 0x1030) LO keys.description ∷ uid_element (tag 0x0020 0x000d) keys.uid
    ∷ text_element (tag 0x0020 0x0010) SH keys.id ∷ [])

abbrev pub series_elements : SeriesKeys → List Element
series_elements keys = text_element (tag 0x0008 0x0060) CS keys.modality ∷ uid_element (tag 0x0020 0x000e) keys.uid
    ∷ text_element (tag 0x0020 0x0011) IS keys.number ∷ []

-- the creator of the private elements in which the digest stands
abbrev pub private_creator : List ℕ
private_creator = codes "DD FILESET 1"

-- the file that a record refers to, by its File ID, and what it holds
abbrev pub reference_elements : List ℕ → Parts → List Element
reference_elements file parts =
    text_element (tag 0x0004 0x1500) CS file ∷ uid_element (tag 0x0004 0x1510) parts.class
    ∷ uid_element (tag 0x0004 0x1511) parts.instance
    ∷ uid_element (tag 0x0004 0x1512) parts.transfer ∷ []

-- the digest of that file, and the block of private elements that it stands in (PS3.5 section 7.8.1)
abbrev pub digest_elements : List ℕ → List Element
digest_elements digest = text_element (tag 0x0009 0x0010) LO private_creator
    ∷ bytes_element (tag 0x0009 0x1001) OB digest
    ∷ []

abbrev pub image_elements : List ℕ → Parts → List Element
image_elements file parts = reference_elements file parts
    ++ (digest_elements parts.digest ++ (text_element (tag 0x0020 0x0013) IS parts.number ∷ []))

-- the type of a record
abbrev pub kind_of : Level → List ℕ
kind_of Patient = codes "PATIENT"
kind_of Study = codes "STUDY"
kind_of Series = codes "SERIES"
kind_of Image = codes "IMAGE"

-- the text of a File ID
abbrev pub file_text : Option Ranks → List ℕ
file_text None = []
file_text (Some ranks) = text_of ranks

-- an image has a File ID, and no other record has one
abbrev pub IsFileOf : Level → Option Ranks → Type 0
IsFileOf Patient file = file ≡ None
IsFileOf Study file = file ≡ None
IsFileOf Series file = file ≡ None
IsFileOf Image file = IsSomeAnd file AreRanks

-- the keys of a record of this level
abbrev pub key_elements : Level → Option Ranks → Parts → List Element
key_elements Patient file parts = patient_elements parts.patient
key_elements Study file parts = study_elements parts.study
key_elements Series file parts = series_elements parts.series
key_elements Image file parts = image_elements (file_text file) parts

-- a record: an item of defined length
abbrev pub record_elements : Level → ℕ → ℕ → Option Ranks → Parts → List Element
record_elements level next lower file parts = link_elements next lower (kind_of level) ++ key_elements level file parts

abbrev pub record_item : List Element → Item
record_item entries = record { length = Defined; set = elements_of entries }

-- They are the elements of a data set that an item of a sequence at the root may hold. Below it items nest one level
-- fewer than below the data set of a file.
abbrev pub IsRecord : List Element → Type 0
IsRecord entries = AreElements Explicit (max_levels - 1) 0 (elements_of entries)
