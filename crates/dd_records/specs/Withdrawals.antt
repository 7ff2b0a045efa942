-- The elements of a directory that name the withdrawn SOP Instance UIDs (PS3.3 section C.12.1): a block of private
-- elements after the Directory Record Sequence (PS3.5 section 7.8.1).
use Rattle.std.specs.Prelude.{ℕ, List, [], ◌∷◌}
use Rattle.std.specs.List.{join_with_byte}
use Rattle.dd_elem.specs.declared.vr.Vr.TheVariants.{LO, UC}
use Rattle.dd_encoding.specs.Elements.{Element}
use Rattle.dd_records.specs.ElementForms.{tag, padded, bytes_element, text_element}
use Rattle.dd_records.specs.Records.{private_creator}
use Rattle.dd_records.specs.Sizes.{elements_size}

-- the creator of the block
abbrev pub creator_element : Element
creator_element = text_element (tag 0x0009 0x0010) LO private_creator

-- the UIDs, joined by `\` (PS3.5 section 6.4) and padded by a space
abbrev pub withdrawn_value : List (List ℕ) → List ℕ
withdrawn_value withdrawn = padded 0x20 (join_with_byte 0x5c withdrawn)

-- the creator and the UIDs; no elements where no UID is withdrawn
abbrev pub withdrawal_elements : List (List ℕ) → List Element
withdrawal_elements [] = []
withdrawal_elements (uid ∷ withdrawn) =
    creator_element ∷ bytes_element (tag 0x0009 0x1002) UC (withdrawn_value (uid ∷ withdrawn)) ∷ []

-- how many bytes they take
abbrev pub withdrawals_size : List (List ℕ) → ℕ
withdrawals_size withdrawn = elements_size (withdrawal_elements withdrawn)
