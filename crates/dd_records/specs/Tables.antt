-- The tables of the elements of records, one for each level (PS3.3 section F.3.2.2 and annex F.5). They give of each
-- element its tag, its value representation and what it holds, in the order of the tags.
use Rattle.std.specs.Prelude.{List, [], ◌∷◌, ◌++◌}
use Rattle.dd_elem.specs.declared.tag.Tag.{Tag}
use Rattle.dd_elem.specs.declared.vr.Vr.{Vr}
use Rattle.dd_elem.specs.declared.vr.Vr.TheVariants.{CS, DA, IS, LO, OB, PN, SH, TM, UI, UL, US}
use Rattle.dd_records.specs.declared.field.Field.{Field}
use Rattle.dd_records.specs.declared.field.Field.TheVariants as holds
use Rattle.dd_records.specs.declared.level.Level.{Level}
use Rattle.dd_records.specs.declared.level.Level.TheVariants.{Patient, Study, Series, Image}
use Rattle.dd_records.specs.declared.table.Row.{Row}
use Rattle.dd_records.specs.ElementForms.{tag}

-- the element with this tag and this value representation, which holds this
abbrev pub row : Tag → Vr → Field → Row
row t vr field = record { tag = t; vr = vr; field = field }

-- what each record begins with: the offset of the next record, the in-use flag, the offset of the first record below,
-- and the type
abbrev pub link_rows : List Row
link_rows =
    row (tag 0x0004 0x1400) UL holds.Next
    ∷ row (tag 0x0004 0x1410) US holds.InUse
    ∷ row (tag 0x0004 0x1420) UL holds.Lower
    ∷ row (tag 0x0004 0x1430) CS holds.Kind
    ∷ []

-- section F.5.1
abbrev pub patient_rows : List Row
patient_rows =
    row (tag 0x0008 0x0005) CS holds.Charset
    ∷ row (tag 0x0010 0x0010) PN holds.PatientName
    ∷ row (tag 0x0010 0x0020) LO holds.PatientId
    ∷ []

-- section F.5.2
abbrev pub study_rows : List Row
study_rows =
    row (tag 0x0008 0x0005) CS holds.Charset
    ∷ row (tag 0x0008 0x0020) DA holds.StudyDate
    ∷ row (tag 0x0008 0x0030) TM holds.StudyTime
    ∷ row (tag 0x0008 0x0050) SH holds.Accession
    ∷ row (tag 0x0008 0x1030) LO holds.Description
    ∷ row (tag 0x0020 0x000d) UI holds.StudyUid
    ∷ row (tag 0x0020 0x0010) SH holds.StudyId
    ∷ []

-- section F.5.3
abbrev pub series_rows : List Row
series_rows =
    row (tag 0x0008 0x0060) CS holds.Modality
    ∷ row (tag 0x0020 0x000e) UI holds.SeriesUid
    ∷ row (tag 0x0020 0x0011) IS holds.SeriesNumber
    ∷ []

-- section F.5.4: the file and what it holds, the private digest of the file after its creator (PS3.5 section 7.8.1),
-- and the number
abbrev pub image_rows : List Row
image_rows =
    row (tag 0x0004 0x1500) CS holds.File
    ∷ row (tag 0x0004 0x1510) UI holds.Class
    ∷ row (tag 0x0004 0x1511) UI holds.Instance
    ∷ row (tag 0x0004 0x1512) UI holds.Transfer
    ∷ row (tag 0x0009 0x0010) LO holds.Creator
    ∷ row (tag 0x0009 0x1001) OB holds.Digest
    ∷ row (tag 0x0020 0x0013) IS holds.Number
    ∷ []

-- the table of a level
abbrev pub table_of : Level → List Row
table_of Patient = link_rows ++ patient_rows
table_of Study = link_rows ++ study_rows
table_of Series = link_rows ++ series_rows
table_of Image = link_rows ++ image_rows
