-- The elements of a record as the rows of a table give them (PS3.3 section F.3.2.2, PS3.5 section 6.2). They say which
-- values a row has in a record, and which element a lent value makes.
use Rattle.std.specs.Prelude.{◌≡◌, ◌≤◌, ℕ, ◌%◌, List, [], ◌∷◌, length, map, flat_map, Option, Some, None}
use Rattle.std.specs.Prelude.{if◌then◌else◌, ◌==◌}
use Rattle.byteorder.specs.Endian.{little_bytes}
use Rattle.dd_elem.specs.FileId.{Ranks}
use Rattle.dd_elem.specs.Key.{max_key_length}
use Rattle.dd_version.specs.declared.parts.Parts.{Parts}
use Rattle.dd_encoding.specs.Elements.{Element, Content, bytes, items, fragments}
use Rattle.dd_records.specs.declared.cell.Cell.{Cell}
use Rattle.dd_records.specs.declared.cell.CellValue.{CellValue}
use Rattle.dd_records.specs.declared.cell.CellValue.TheVariants as values
use Rattle.dd_records.specs.declared.field.Field.{Field}
use Rattle.dd_records.specs.declared.field.Field.TheVariants as fields
use Rattle.dd_records.specs.declared.level.Level.{Level}
use Rattle.dd_records.specs.declared.level.Level.TheVariants.{Patient, Study, Series, Image}
use Rattle.dd_records.specs.declared.table.Row.{Row}
use Rattle.dd_records.specs.ElementForms.{padded, bytes_element}
use Rattle.dd_records.specs.Records.{kind_of, file_text, private_creator}

-- ---- lent values

-- its bytes, and the same made even
abbrev pub bare_value : CellValue → List ℕ
bare_value (values.Long number) = number
bare_value (values.Short number) = number
bare_value (values.Text text) = text.now
bare_value (values.File text) = text
bare_value (values.Uid uid) = uid.now
bare_value (values.Bytes given) = given.now

abbrev pub even_value : CellValue → List ℕ
even_value (values.Long number) = number
even_value (values.Short number) = number
even_value (values.Text text) = padded 0x20 text.now
even_value (values.File text) = padded 0x20 text
even_value (values.Uid uid) = padded 0x00 uid.now
even_value (values.Bytes given) = given.now

abbrev pub cell_values : Option CellValue → List (List ℕ)
cell_values None = []
cell_values (Some value) = even_value value ∷ []

-- the element
abbrev pub cell_element : Cell → Element
cell_element cell = bytes_element cell.tag cell.vr (even_value cell.value)

abbrev pub cell_elements : Option Cell → List Element
cell_elements None = []
cell_elements (Some cell) = cell_element cell ∷ []

-- an element of an even length, with no more bytes than a key may have
abbrev pub IsShort : List ℕ → Type 0
IsShort v = (length v % 2 ≡ 0) × (length v ≤ max_key_length)

abbrev pub IsShortContent : Content → Type 0
IsShortContent (bytes v) = IsShort v
IsShortContent (items form parts) = ⊥
IsShortContent (fragments fs) = ⊥

abbrev pub IsShortElement : Element → Type 0
IsShortElement entry = IsShortContent entry.content

-- ---- rows

-- the Specific Character Set, where there is one
abbrev pub charset_values : List ℕ → List (List ℕ)
charset_values charset = if length charset == 0 then [] else padded 0x20 charset ∷ []

-- the character set of the keys of this level
abbrev pub charset_of : Level → Parts → List ℕ
charset_of Patient parts = parts.patient.charset
charset_of Study parts = parts.study.charset
charset_of Series parts = []
charset_of Image parts = []

-- the values of a field in a record: one, or none
abbrev pub field_values : Field → Level → ℕ → ℕ → Option Ranks → Parts → List (List ℕ)
field_values fields.Next level next lower file parts = little_bytes 4 next ∷ []
field_values fields.InUse level next lower file parts = little_bytes 2 0xffff ∷ []
field_values fields.Lower level next lower file parts = little_bytes 4 lower ∷ []
field_values fields.Kind level next lower file parts = padded 0x20 (kind_of level) ∷ []
field_values fields.File level next lower file parts = padded 0x20 (file_text file) ∷ []
field_values fields.Class level next lower file parts = padded 0x00 parts.class ∷ []
field_values fields.Instance level next lower file parts = padded 0x00 parts.instance ∷ []
field_values fields.Transfer level next lower file parts = padded 0x00 parts.transfer ∷ []
field_values fields.Charset level next lower file parts = charset_values (charset_of level parts)
field_values fields.PatientName level next lower file parts = padded 0x20 parts.patient.name ∷ []
field_values fields.PatientId level next lower file parts = padded 0x20 parts.patient.id ∷ []
field_values fields.StudyDate level next lower file parts = padded 0x20 parts.study.date ∷ []
field_values fields.StudyTime level next lower file parts = padded 0x20 parts.study.time ∷ []
field_values fields.Accession level next lower file parts = padded 0x20 parts.study.accession ∷ []
field_values fields.Description level next lower file parts = padded 0x20 parts.study.description ∷ []
field_values fields.StudyUid level next lower file parts = padded 0x00 parts.study.uid ∷ []
field_values fields.StudyId level next lower file parts = padded 0x20 parts.study.id ∷ []
field_values fields.Modality level next lower file parts = padded 0x20 parts.series.modality ∷ []
field_values fields.SeriesUid level next lower file parts = padded 0x00 parts.series.uid ∷ []
field_values fields.SeriesNumber level next lower file parts = padded 0x20 parts.series.number ∷ []
field_values fields.Creator level next lower file parts = padded 0x20 private_creator ∷ []
field_values fields.Digest level next lower file parts = parts.digest ∷ []
field_values fields.Number level next lower file parts = padded 0x20 parts.number ∷ []

-- the element of a row in a record, where it has one
abbrev pub row_elements : Row → Level → ℕ → ℕ → Option Ranks → Parts → List Element
row_elements row level next lower file parts =
    map (λ v. bytes_element row.tag row.vr v) (field_values row.field level next lower file parts)

-- the elements of these rows, in order
abbrev pub table_elements : List Row → Level → ℕ → ℕ → Option Ranks → Parts → List Element
table_elements rows level next lower file parts = flat_map (λ row. row_elements row level next lower file parts) rows
