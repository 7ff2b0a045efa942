-- How long a directory is, and that its elements are elements of a set.
use Rattle.std.proofs.Common.{◌≡◌, ℕ, ◌+◌, ◌<◌, ◌≤◌, List, [], ◌∷◌, ◌++◌, length, map, Some, refl, sum_by}
use Rattle.std.proofs.Common.{arith}
use Rattle.std.specs.List.{All, AllByRecursion}
use Rattle.std.proofs.lemmas.List.Elements.{recursion_from_All}
use Rattle.std.proofs.lemmas.List.Sums.{sum_by-cons}
use Rattle.byteorder.specs.Endian.{little_bytes}
use Rattle.dd_elem.specs.SetId.{max_set_id_length}
use Rattle.dd_elem.specs.declared.vr.Vr.TheVariants.{CS, SQ, UL, US}
use Rattle.dd_encoding.specs.Head.{head_text}
use Rattle.dd_encoding.specs.Elements.{Element, Item, bytes, items, no_elements, elements_of, items_of}
use Rattle.dd_encoding.specs.Spelling.{AreElements, AreItems, max_levels, undefined_length, items_text}
use Rattle.dd_encoding.specs.declared.syntax.Length.TheVariants.{Defined}
use Rattle.dd_encoding.specs.declared.syntax.Syntax.TheVariants.{Explicit}
use Rattle.dd_encoding.proofs.Even.{length-element, length-items, length-item}
use Rattle.dd_records.specs.declared.label.Label.{Label}
use Rattle.dd_records.specs.Directory.{directory_elements, first_offset, meta_of, records_element}
use Rattle.dd_records.specs.ElementForms.{tag, padded, long_element, short_element}
use Rattle.dd_records.specs.Records.{IsRecord, record_item}
use Rattle.dd_records.specs.Sizes.{elements_size, record_size}
use Rattle.dd_records.specs.Withdrawals.{withdrawal_elements, withdrawals_size}
use Rattle.dd_records.proofs.Lengths.{length-padded, short_more, size-append}
use Rattle.dd_records.proofs.Valid.{one_valid, short_number}
use Rattle.dd_records.proofs.WithdrawalElements.{withdrawals_valid}

-- ---- lengths

pub items_length : (records : List (List Element)) → length (items_text (items_of (map record_item records)))
    ≡ sum_by record_size records
items_length [] = refl
items_length (es ∷ more) =
    let a = length-item Defined (elements_of es) (items_of (map record_item more)) in
    let b = items_length more in
    let c = sum_by-cons record_size es more in
    omega arith

pub directory_length : (id : List ℕ) (first last : ℕ) (parts : List Item)
    → elements_size (directory_elements id first last parts)
    ≡ 54 + length (padded 0x20 id) + length (items_text (items_of parts))
directory_length id first last parts =
    let records : List Element = records_element parts ∷ [] in
    let flag : List Element = short_element (tag 0x0004 0x1212) 0x0000 ∷ records in
    let lasts : List Element = long_element (tag 0x0004 0x1202) last ∷ flag in
    let firsts : List Element = long_element (tag 0x0004 0x1200) first ∷ lasts in
    let a = short_more (tag 0x0004 0x1130) CS (padded 0x20 id) firsts refl in
    let b = short_more (tag 0x0004 0x1200) UL (little_bytes 4 first) lasts refl in
    let c = short_more (tag 0x0004 0x1202) UL (little_bytes 4 last) flag refl in
    let d = short_more (tag 0x0004 0x1212) US (little_bytes 2 0x0000) records refl in
    let e = length-element (tag 0x0004 0x1220) (Some SQ) (items Defined (items_of parts)) no_elements in
    let f = length-items (Some SQ) Defined (items_of parts) in
    omega arith

pub length_is_of_records : (label : Label) (first last : ℕ) (records : List (List Element)) (withdrawn : List (List ℕ))
    → length (head_text (meta_of label))
    + elements_size (directory_elements label.id first last (map record_item records) ++ withdrawal_elements withdrawn)
    ≡ first_offset label + sum_by record_size records + withdrawals_size withdrawn
length_is_of_records label first last records withdrawn =
    let a = directory_length label.id first last (map record_item records) in
    let b = directory_length label.id 0 0 [] in
    let c = items_length records in
    let d = size-append (directory_elements label.id first last (map record_item records))
    (withdrawal_elements withdrawn) in
    omega arith

-- ---- elements of a set

items_valid : (records : List (List Element)) → AllByRecursion IsRecord records
    → sum_by record_size records < undefined_length
    → AreItems Explicit max_levels (items_of (map record_item records))
items_valid [] valid below = tt
items_valid (es ∷ more) valid below =
    let a = sum_by-cons record_size es more in
    (valid.0, omega arith, items_valid more valid.1 (omega arith))

directory_valid : (id : List ℕ) (first last : ℕ) (parts : List Item) (later : List Element)
    → length id ≤ max_set_id_length → AreItems Explicit max_levels (items_of parts)
    → length (items_text (items_of parts)) < undefined_length
    → AreElements Explicit max_levels 0x00041221 (elements_of later)
    → AreElements Explicit max_levels 0 (elements_of (directory_elements id first last parts ++ later))
directory_valid id first last parts later few valid below rest =
    let records : List Element = records_element parts ∷ later in
    let flag : List Element = short_element (tag 0x0004 0x1212) 0x0000 ∷ records in
    let lasts : List Element = long_element (tag 0x0004 0x1202) last ∷ flag in
    let firsts : List Element = long_element (tag 0x0004 0x1200) first ∷ lasts in
    let e = length-padded 0x20 id in
    let a : AreElements Explicit max_levels 0x00041213 (elements_of records) =
    (omega arith, omega arith, omega arith, (λ e. omega arith), (valid, below), tt, rest) in
    let b : AreElements Explicit max_levels 0x00041203 (elements_of flag) =
    one_valid max_levels 0x00041203 (tag 0x0004 0x1212) (Some US) (bytes (little_bytes 2 0x0000))
    (elements_of records) tt tt (refl, omega arith) a in
    let c : AreElements Explicit max_levels 0x00041201 (elements_of lasts) =
    one_valid max_levels 0x00041201 (tag 0x0004 0x1202) (Some UL) (bytes (little_bytes 4 last)) (elements_of flag) tt tt
    (short_number last) b in
    let d : AreElements Explicit max_levels 0x00041131 (elements_of firsts) =
    one_valid max_levels 0x00041131 (tag 0x0004 0x1200) (Some UL) (bytes (little_bytes 4 first)) (elements_of lasts) tt
    tt (short_number first) c in
    one_valid max_levels 0 (tag 0x0004 0x1130) (Some CS) (bytes (padded 0x20 id)) (elements_of firsts) tt tt
    (omega arith, omega arith) d

pub elements_are_valid : (id : List ℕ) (first last : ℕ) (records : List (List Element)) (withdrawn : List (List ℕ))
    → length id ≤ max_set_id_length → All IsRecord records → sum_by record_size records < undefined_length
    → withdrawals_size withdrawn < undefined_length
    → AreElements Explicit max_levels 0 (elements_of
    (directory_elements id first last (map record_item records) ++ withdrawal_elements withdrawn))
elements_are_valid id first last records withdrawn few valid below small =
    let a = items_length records in
    directory_valid id first last (map record_item records) (withdrawal_elements withdrawn) few
    (items_valid records (recursion_from_All IsRecord records valid) below) (omega arith)
    (withdrawals_valid withdrawn small)
