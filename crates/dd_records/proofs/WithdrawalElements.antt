-- How long the elements with the withdrawn UIDs are, and that they may stand in a set after the records.
use Rattle.std.proofs.Common.{◌≡◌, ℕ, ◌+◌, ◌-◌, ◌%◌, ◌<◌, List, [], ◌∷◌, length, Some, refl, arith, length-append}
use Rattle.std.proofs.Common.{sum_by}
use Rattle.std.specs.List.{join_with_byte}
use Rattle.std.proofs.lemmas.List.Sums.{sum_by-cons}
use Rattle.dd_elem.specs.declared.vr.Vr.TheVariants.{LO, UC}
use Rattle.dd_encoding.specs.Elements.{bytes, no_elements, elements_of}
use Rattle.dd_encoding.specs.Spelling.{AreElements, max_levels, undefined_length}
use Rattle.dd_encoding.specs.declared.syntax.Syntax.TheVariants.{Explicit}
use Rattle.dd_encoding.proofs.Even.{length-element, length-bytes}
use Rattle.dd_records.specs.ElementForms.{tag, padded, bytes_element}
use Rattle.dd_records.specs.Records.{private_creator}
use Rattle.dd_records.specs.Withdrawals.{withdrawal_elements, withdrawals_size, withdrawn_value}
use Rattle.dd_records.proofs.Lengths.{length-padded, short_more}
use Rattle.dd_records.proofs.Valid.{one_valid, value_valid}

-- a UID and one byte after it
abbrev pub closed : List ℕ → ℕ
closed uid = length uid + 1

-- ---- lengths

joined_length : (uid : List ℕ) (withdrawn : List (List ℕ))
    → length (join_with_byte 0x5c (uid ∷ withdrawn)) + 1 ≡ sum_by closed (uid ∷ withdrawn)
joined_length uid [] = omega arith
joined_length uid (next ∷ withdrawn) =
    let a = length-append uid (0x5c ∷ join_with_byte 0x5c (next ∷ withdrawn)) in
    let b = joined_length next withdrawn in
    let c = sum_by-cons closed uid (next ∷ withdrawn) in
    omega arith

-- of the bytes after the UIDs the last is the padding, where there is one
pub value_length : (withdrawn : List (List ℕ)) (n : ℕ) → n ≡ sum_by closed withdrawn
    → n - n % 2 ≡ length (withdrawn_value withdrawn)
value_length [] n is = omega (arith, is)
value_length (uid ∷ withdrawn) n is =
    let a = length-padded 0x20 (join_with_byte 0x5c (uid ∷ withdrawn)) in
    let b = joined_length uid withdrawn in
    omega (arith, a, b, is)

-- two headers and the creator stand before the UIDs
pub size_by_value : (uid : List ℕ) (withdrawn : List (List ℕ))
    → withdrawals_size (uid ∷ withdrawn) ≡ 32 + length (withdrawn_value (uid ∷ withdrawn))
size_by_value uid withdrawn =
    let v : List ℕ = withdrawn_value (uid ∷ withdrawn) in
    let a = short_more (tag 0x0009 0x0010) LO (padded 0x20 private_creator)
    (bytes_element (tag 0x0009 0x1002) UC v ∷ []) refl in
    let b = length-element (tag 0x0009 0x1002) (Some UC) (bytes v) no_elements in
    let c = length-bytes (Some UC) v in
    omega arith

-- ---- elements of a set

pub withdrawals_valid : (withdrawn : List (List ℕ)) → withdrawals_size withdrawn < undefined_length
    → AreElements Explicit max_levels 0x00041221 (elements_of (withdrawal_elements withdrawn))
withdrawals_valid [] below = tt
withdrawals_valid (uid ∷ withdrawn) below =
    let v : List ℕ = withdrawn_value (uid ∷ withdrawn) in
    let size = size_by_value uid withdrawn in
    let even = length-padded 0x20 (join_with_byte 0x5c (uid ∷ withdrawn)) in
    one_valid max_levels 0x00041221 (tag 0x0009 0x0010) (Some LO) (bytes (padded 0x20 private_creator))
    (elements_of (bytes_element (tag 0x0009 0x1002) UC v ∷ [])) tt tt (refl, omega arith)
    (value_valid max_levels 0x00090011 (tag 0x0009 0x1002) UC v no_elements tt tt (omega (arith, even))
    (omega (arith, size, below)) tt)
