-- The table of the elements that give a version its keys and UIDs: where a value stands, and what stands for an empty
-- one. The keys that records of a directory must have are replaced where they are empty (PS3.3 section F.5); a UID is
-- not.
use Rattle.std.specs.Prelude.{ℕ, List, [], ◌∷◌, map, Option, Some, None, codes}
use Rattle.dd_elem.specs.declared.tag.Tag.{Tag}
use Rattle.dd_keys.specs.declared.rows.MetaUid.{MetaUid}
use Rattle.dd_keys.specs.declared.rows.MetaUid.TheVariants.{Class, Instance}

-- an element with a key: its tag, and the key where the value is empty
pub record KeyRow : Type 0 where
  pub tag : Tag
  pub when_empty : List ℕ

-- an element with a UID: its tag, and the UID of group 0002 that it has to repeat
pub record UidRow : Type 0 where
  pub tag : Tag
  pub same_as : Option MetaUid

pub data Row : Type 0 where
  key : KeyRow → Row
  uid : UidRow → Row

abbrev pub key_row : ℕ → ℕ → List ℕ → KeyRow
key_row group number other = record { tag = record { group = group; element = number }; when_empty = other }

abbrev pub uid_row : ℕ → ℕ → Option MetaUid → UidRow
uid_row group number same_as = record { tag = record { group = group; element = number }; same_as = same_as }

-- Specific Character Set
abbrev pub charset_row : KeyRow
charset_row = key_row 0x0008 0x0005 []

-- SOP Class UID
abbrev pub class_row : UidRow
class_row = uid_row 0x0008 0x0016 (Some Class)

-- SOP Instance UID
abbrev pub instance_row : UidRow
instance_row = uid_row 0x0008 0x0018 (Some Instance)

-- Study Date
abbrev pub study_date_row : KeyRow
study_date_row = key_row 0x0008 0x0020 (codes "19000101")

-- Study Time
abbrev pub study_time_row : KeyRow
study_time_row = key_row 0x0008 0x0030 (codes "000000")

-- Accession Number
abbrev pub accession_row : KeyRow
accession_row = key_row 0x0008 0x0050 []

-- Modality
abbrev pub modality_row : KeyRow
modality_row = key_row 0x0008 0x0060 (codes "OT")

-- Study Description
abbrev pub description_row : KeyRow
description_row = key_row 0x0008 0x1030 []

-- Patient's Name
abbrev pub patient_name_row : KeyRow
patient_name_row = key_row 0x0010 0x0010 []

-- Patient ID
abbrev pub patient_id_row : KeyRow
patient_id_row = key_row 0x0010 0x0020 (codes "NOID")

-- Study Instance UID
abbrev pub study_row : UidRow
study_row = uid_row 0x0020 0x000d None

-- Series Instance UID
abbrev pub series_row : UidRow
series_row = uid_row 0x0020 0x000e None

-- Study ID
abbrev pub study_id_row : KeyRow
study_id_row = key_row 0x0020 0x0010 (codes "0")

-- Series Number
abbrev pub series_number_row : KeyRow
series_number_row = key_row 0x0020 0x0011 (codes "0")

-- Instance Number
abbrev pub instance_number_row : KeyRow
instance_number_row = key_row 0x0020 0x0013 (codes "0")

-- the rows in the order of their tags
abbrev pub rows : List Row
rows =
    key charset_row ∷ uid class_row ∷ uid instance_row ∷ key study_date_row ∷ key study_time_row ∷
    key accession_row ∷ key modality_row ∷ key description_row ∷ key patient_name_row ∷ key patient_id_row ∷
    uid study_row ∷ uid series_row ∷ key study_id_row ∷ key series_number_row ∷ key instance_number_row ∷ []

-- the tag of a row
abbrev pub tag_of : Row → Tag
tag_of (key row) = row.tag
tag_of (uid row) = row.tag

-- the tags of the table
abbrev pub wanted_tags : List Tag
wanted_tags = map tag_of rows
