-- The text of the elements with the withdrawn UIDs as the pieces that are sent.
use Rattle.std.proofs.Common.{◌≡◌, ℕ, ◌+◌, ◌<◌, ◌^◌, ◌%◌, ◌==◌, Bool, true, false, List, [], ◌∷◌, ◌++◌, length}
use Rattle.std.proofs.Common.{get_or, Some, if◌then◌else◌}
use Rattle.std.proofs.Common.{refl, sym, ap, ◌∙◌, arith, append_assoc, append-nil}
use Rattle.std.specs.List.{join_with_byte}
use Rattle.dd_elem.specs.declared.vr.Vr.TheVariants.{UC}
use Rattle.dd_encoding.specs.Elements.{Element}
use Rattle.dd_encoding.specs.Spelling.{header_text, shape_text, tag_text}
use Rattle.dd_catalogue.proofs.FirstAndRest.{first_and_rest, rest_of}
use Rattle.dd_records.specs.ElementForms.{bytes_element, tag}
use Rattle.dd_records.specs.Withdrawals.{creator_element, withdrawal_elements, withdrawals_size, withdrawn_value}
use Rattle.dd_records.proofs.Lengths.{length-padded}
use Rattle.dd_records.proofs.WithdrawalElements.{size_by_value}
use Rattle.dd_dir.proofs.RowTexts.{text-append, text-one, text_of}

-- the header of the element with the UIDs
abbrev pub withdrawn_header : ℕ → List ℕ
withdrawn_header count = header_text (tag 0x0009 0x1002) (Some UC) count

-- three pieces are sent one after the other: the element with the creator, then the header of the element with the
-- UIDs, then its value
pub withdrawal_parts : (withdrawn : List (List ℕ)) (count : ℕ) → 0 < length withdrawn
    → count ≡ length (withdrawn_value withdrawn)
    → text_of (creator_element ∷ []) ++ (withdrawn_header count ++ withdrawn_value withdrawn)
    ≡ text_of (withdrawal_elements withdrawn)
withdrawal_parts [] count some is = absurd (omega (arith, some))
withdrawal_parts (uid ∷ withdrawn) count some is =
    let v : List ℕ = withdrawn_value (uid ∷ withdrawn) in
    let entry = bytes_element (tag 0x0009 0x1002) UC v in
    ap (λ (t : List ℕ). text_of (creator_element ∷ []) ++ t)
    (ap (λ (n : ℕ). withdrawn_header n ++ v) is
    ∙ append_assoc (tag_text (tag 0x0009 0x1002)) (shape_text (Some UC) (length v)) v
    ∙ sym (text-one entry))
    ∙ sym (text-append (creator_element ∷ []) (entry ∷ []))

-- the creator's element has the same text as its cell
pub creator_text : (entry : Element) → entry ≡ creator_element → text_of (entry ∷ []) ≡ text_of (creator_element ∷ [])
creator_text entry is = ap (λ (e : Element). text_of (e ∷ [])) is

-- how long the value is
pub value_size : (withdrawn : List (List ℕ)) → 0 < length withdrawn
    → withdrawals_size withdrawn ≡ 32 + length (withdrawn_value withdrawn)
value_size [] some = absurd (omega (arith, some))
value_size (uid ∷ withdrawn) some = size_by_value uid withdrawn

pub none_withdrawn : (withdrawn : List (List ℕ)) → length withdrawn ≡ 0 → text_of (withdrawal_elements withdrawn) ≡ []
none_withdrawn [] none = refl
none_withdrawn (uid ∷ withdrawn) none = absurd (omega (arith, none))

-- ---- the value

-- the value is the joined UIDs, and then the padding
pad_behind : (even : Bool) (v : List ℕ) → v ++ (if even then [] else 0x20 ∷ []) ≡ (if even then v else v ++ 0x20 ∷ [])
pad_behind true v = append-nil v
pad_behind false v = refl

abbrev pub padding_of : List ℕ → List ℕ
padding_of v = if length v % 2 == 0 then [] else 0x20 ∷ []

pub value_parts : (withdrawn : List (List ℕ))
    → join_with_byte 0x5c withdrawn ++ padding_of (join_with_byte 0x5c withdrawn) ≡ withdrawn_value withdrawn
value_parts withdrawn =
    let v : List ℕ = join_with_byte 0x5c withdrawn in
    pad_behind (length v % 2 == 0) v

-- the joined UIDs are no longer
pub joined_fits : (withdrawn : List (List ℕ)) (sent : ℕ) → sent + length (withdrawn_value withdrawn) < 2 ^ 64
    → sent + length (join_with_byte 0x5c withdrawn) < 2 ^ 64
joined_fits withdrawn sent fits =
    let a = length-padded 0x20 (join_with_byte 0x5c withdrawn) in
    omega (arith, a, fits)

-- ---- the joined UIDs

-- what follows a UID in the joined text, where these UIDs come next
abbrev pub joined_behind : List (List ℕ) → List ℕ
joined_behind [] = []
joined_behind (uid ∷ uids) = 0x5c ∷ join_with_byte 0x5c (uid ∷ uids)

joined_more : (uid : List ℕ) (uids : List (List ℕ)) → join_with_byte 0x5c (uid ∷ uids) ≡ uid ++ joined_behind uids
joined_more uid [] = sym (append-nil uid)
joined_more uid (x ∷ uids) = refl

-- UIDs that remain are joined as the first of them, and then what follows it
pub joined_at : (uids : List (List ℕ)) (uid seen : List ℕ) → 0 < length uids → uid ≡ get_or uids 0 uid → seen ≡ uid
    → join_with_byte 0x5c uids ≡ seen ++ joined_behind (rest_of uids)
joined_at uids uid seen some read same =
    ap (λ us. join_with_byte 0x5c us) (first_and_rest uids uid some read) ∙ joined_more uid (rest_of uids)
    ∙ ap (λ v. v ++ joined_behind (rest_of uids)) (sym same)

-- what follows a UID is a mark, and then the other UIDs
pub joined_by : (uids : List (List ℕ)) (uid seen mark : List ℕ) → 0 < length uids → uid ≡ get_or uids 0 uid
    → seen ≡ uid → ((u : List ℕ) → join_with_byte 0x5c (u ∷ rest_of uids)
    ≡ u ++ (mark ++ join_with_byte 0x5c (rest_of uids)))
    → join_with_byte 0x5c uids ≡ seen ++ (mark ++ join_with_byte 0x5c (rest_of uids))
joined_by uids uid seen mark some read same marked =
    ap (λ us. join_with_byte 0x5c us) (first_and_rest uids uid some read) ∙ marked uid
    ∙ ap (λ v. v ++ (mark ++ join_with_byte 0x5c (rest_of uids))) (sym same)
