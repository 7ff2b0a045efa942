-- The text of records as the pieces that are sent.
use Rattle.std.proofs.Common.{◌≡◌, ℕ, ◌+◌, ◌-◌, ◌<◌, ◌^◌, List, ◌∷◌, ◌++◌, length, map, get_or, Some}
use Rattle.std.proofs.Common.{sym, ap, ◌∙◌, arith, length-append}
use Rattle.std.proofs.lemmas.Option.{slice_get-get_or}
use Rattle.byteorder.specs.Endian.{little_bytes}
use Rattle.dd_version.specs.declared.parts.Parts.{Parts}
use Rattle.dd_encoding.specs.Elements.{Element, items_of}
use Rattle.dd_set.specs.Single.{item_text}
use Rattle.dd_encoding.specs.Spelling.{item_tag_text, items_text}
use Rattle.dd_set.proofs.Counting.{part_first}
use Rattle.dd_records.specs.declared.record.PlanRecord.{PlanRecord}
use Rattle.dd_records.specs.Records.{record_elements, record_item}
use Rattle.dd_records.specs.Sizes.{record_size}
use Rattle.dd_dir.specs.Directories.{elements_by, elements_for}
use Rattle.dd_dir.proofs.RowTexts.{text_of}

-- the elements of a record have the keys of the version that was found
pub elements_are : (versions : List Parts) (row : PlanRecord) (found parts : Parts) → row.of < length versions
    → found ≡ get_or versions row.of found → parts ≡ found
    → elements_for versions row ≡ record_elements row.level row.next row.lower row.file parts
elements_are versions row found parts within is same =
    ap (elements_by row) (slice_get-get_or versions row.of found within ∙ ap Some (sym (same ∙ is)))

-- a record is sent as the header of its item and its elements
pub record_parts : (entries : List Element) (header : List ℕ) (size : ℕ)
    → header ≡ item_tag_text ++ little_bytes 4 (size - 8) → size ≡ record_size entries
    → header ++ text_of entries ≡ item_text (record_item entries)
record_parts entries header size is size_is =
    let count : size - 8 ≡ length (text_of entries) = omega (arith, size_is) in
    ap (λ (h : List ℕ). h ++ text_of entries) (is ∙ ap (λ (n : ℕ). item_tag_text ++ little_bytes 4 n) count)

-- there is room for the second of two texts where there is for the whole
pub second_fits : (one two whole : List ℕ) (sent n : ℕ) → one ++ two ≡ whole → sent + length whole < 2 ^ 64
    → n ≡ sent + length one → n + length two < 2 ^ 64
second_fits one two whole sent n is fits first =
    let sum : length whole ≡ length one + length two = sym (ap length is) ∙ length-append one two in
    omega (arith, sum, fits, first)

-- the text of these records
abbrev pub records_text : List Parts → List PlanRecord → List ℕ
records_text versions rows = items_text (items_of (map record_item (map (elements_for versions) rows)))

-- the text of records begins with the text of the first record
pub text_at : (versions : List Parts) (rows : List PlanRecord) (row : PlanRecord) (rest : List PlanRecord)
    → rows ≡ row ∷ rest → records_text versions rows
    ≡ item_text (record_item (elements_for versions row)) ++ records_text versions rest
text_at versions rows row rest is =
    ap (records_text versions) is
    ∙ part_first (record_item (elements_for versions row)) (items_of (map record_item (map (elements_for versions)
    rest)))
