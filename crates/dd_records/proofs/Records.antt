-- What the cells of one record say of all records of its level.
use Rattle.std.proofs.Common.{◌≡◌, ℕ, ◌+◌, List, Option, ap, subst, ◌∙◌}
use Rattle.std.specs.List.{AllByRecursion}
use Rattle.dd_elem.specs.FileId.{Ranks}
use Rattle.dd_version.specs.declared.parts.Parts.{Parts}
use Rattle.dd_encoding.specs.Elements.{elements_of}
use Rattle.dd_encoding.specs.Spelling.{AreElements}
use Rattle.dd_encoding.specs.declared.syntax.Syntax.TheVariants.{Explicit}
use Rattle.dd_records.specs.Cells.{IsShortElement, table_elements}
use Rattle.dd_records.specs.Records.{IsFileOf, record_elements}
use Rattle.dd_records.specs.Sizes.{elements_size, record_size}
use Rattle.dd_records.specs.declared.level.Level.{Level}
use Rattle.dd_records.specs.declared.record.PlanRecord.{PlanRecord}
use Rattle.dd_records.specs.declared.table.Row.{Row}
use Rattle.dd_records.proofs.RecordSizes.{same_size}
use Rattle.dd_records.proofs.Valid.{record_valid}

-- the rows give the elements of each record of the level
abbrev pub IsTable : Level → List Row → Type 0
IsTable level rows = (next lower : ℕ) (file : Option Ranks) (parts : Parts)
    → table_elements rows level next lower file parts ≡ record_elements level next lower file parts

-- the elements of one record
one_record : (level : Level) (rows : List Row) (one : PlanRecord) (parts : Parts) → IsTable level rows
    → one.level ≡ level
    → table_elements rows one.level one.next one.lower one.file parts
    ≡ record_elements level one.next one.lower one.file parts
one_record level rows one parts table is =
    ap (λ (l : Level). table_elements rows l one.next one.lower one.file parts) is
    ∙ table one.next one.lower one.file parts

-- its size is the size of each
pub size_from_one : (level : Level) (rows : List Row) (one : PlanRecord) (parts : Parts) (size : ℕ)
    → IsTable level rows → one.level ≡ level → IsFileOf level one.file
    → size ≡ elements_size (table_elements rows one.level one.next one.lower one.file parts)
    → (next lower : ℕ) (file : Option Ranks) → IsFileOf level file
    → 8 + size ≡ record_size (record_elements level next lower file parts)
size_from_one level rows one parts size table is file_is sum next lower file file_too =
    ap (λ (n : ℕ). 8 + n) (sum ∙ ap elements_size (one_record level rows one parts table is)
    ∙ same_size level one.next one.lower next lower one.file file parts file_is file_too)

-- by its short values the elements of each are elements of a set
pub valid_from_one : (level : Level) (rows : List Row) (one : PlanRecord) (parts : Parts) → IsTable level rows
    → one.level ≡ level → IsFileOf level one.file
    → AllByRecursion IsShortElement (table_elements rows one.level one.next one.lower one.file parts)
    → (levels next lower : ℕ) (file : Option Ranks) → IsFileOf level file
    → AreElements Explicit levels 0 (elements_of (record_elements level next lower file parts))
valid_from_one level rows one parts table is file_is short levels next lower file file_too =
    record_valid levels level one.next one.lower next lower one.file file parts file_is file_too
    (subst (AllByRecursion IsShortElement) (one_record level rows one parts table is) short)
