-- UIDs that are joined and padded, as they are written, are read back one by one.
use Rattle.std.proofs.Common.{◌≡◌, ◌≢◌, ◌≤◌, ℕ, false, List, [], ◌∷◌, ◌++◌, ◌==◌, All, sym, ap, subst, ◌∙◌, refl}
use Rattle.std.proofs.Common.{arith}
use Rattle.std.specs.List.{AllByRecursion, join_with_byte}
use Rattle.std.proofs.lemmas.Bool.{ne_eqb}
use Rattle.std.proofs.lemmas.List.Elements.{All-append, All-cons, All-head, All-nil, All-tail, All-weaker}
use Rattle.std.proofs.lemmas.List.Splits.{slice_split_none, slice_split_at}
use Rattle.dd_elem.specs.Characters.{IsDigit}
use Rattle.dd_elem.specs.Clean.{clean_of}
use Rattle.dd_elem.specs.Uid.{IsComponent, IsUid}
use Rattle.dd_elem.proofs.Cleaning.{clean_of-unpadded}
use Rattle.dd_version.specs.declared.parts.Parts.{Parts}
use Rattle.dd_records.specs.declared.label.Label.{Label}
use Rattle.dd_records.specs.Withdrawals.{withdrawn_value}
use Rattle.dd_dir.specs.Directories.{directory_set}
use Rattle.dd_walk.specs.Saying.{withdrawn_in}
use Rattle.dd_walk.specs.WithdrawnPieces.{pieces_in, pieces_of}
use Rattle.dd_dir.proofs.RecordsSay.{clean_of-padded}

-- a character of a UID, or `\`: neither NUL nor a space
record IsPlain (byte : ℕ) : Type 0 where
  above : 33 ≤ byte

-- a digit or `.`
record IsUidCharacter (byte : ℕ) : Type 0 where
  above : 33 ≤ byte
  below : byte ≤ 57

digit_is : (byte : ℕ) → IsDigit byte → IsUidCharacter byte
digit_is byte digit = record { above = omega (arith, digit.0); below = omega (arith, digit.1) }

components_are : (components : List (List ℕ)) → All IsComponent components
    → All IsUidCharacter (join_with_byte 46 components)
components_are [] each = All-nil IsUidCharacter
components_are (one ∷ []) each =
    All-weaker IsDigit IsUidCharacter digit_is one (All-head IsComponent one [] each).digits
components_are (one ∷ next ∷ more) each =
    let head = All-weaker IsDigit IsUidCharacter digit_is one (All-head IsComponent one (next ∷ more) each).digits in
    let rest = components_are (next ∷ more) (All-tail IsComponent one (next ∷ more) each) in
    All-append IsUidCharacter one (46 ∷ join_with_byte 46 (next ∷ more)) head
    (All-cons IsUidCharacter 46 (join_with_byte 46 (next ∷ more))
    (record { above = omega arith; below = omega arith }) rest)

uid_characters : (uid : List ℕ) → IsUid uid → All IsUidCharacter uid
uid_characters uid is =
    subst (λ (s : List ℕ). All IsUidCharacter s) (sym is.joined) (components_are is.components is.each)

plain_uid : (uid : List ℕ) → IsUid uid → All IsPlain uid
plain_uid uid is =
    All-weaker IsUidCharacter IsPlain (λ byte may. record { above = may.above }) uid (uid_characters uid is)

-- ---- no padding

joined_plain : (uids : List (List ℕ)) → AllByRecursion IsUid uids → All IsPlain (join_with_byte 92 uids)
joined_plain [] each = All-nil IsPlain
joined_plain (one ∷ []) each = plain_uid one each.0
joined_plain (one ∷ next ∷ more) each =
    All-append IsPlain one (92 ∷ join_with_byte 92 (next ∷ more)) (plain_uid one each.0)
    (All-cons IsPlain 92 (join_with_byte 92 (next ∷ more)) (record { above = omega arith })
    (joined_plain (next ∷ more) each.1))

last_plain : (front : List ℕ) (last : ℕ) → All IsPlain (front ++ last ∷ []) → IsPlain last
last_plain [] last each = All-head IsPlain last [] each
last_plain (byte ∷ front) last each = last_plain front last (All-tail IsPlain byte (front ++ last ∷ []) each)

no_padding : (byte : ℕ) → IsPlain byte → (byte ≢ 0) × (byte ≢ 32)
no_padding byte plain = (λ e. omega (arith, plain.above, e), λ e. omega (arith, plain.above, e))

joined_clean : (uids : List (List ℕ)) → AllByRecursion IsUid uids
    → clean_of (join_with_byte 92 uids) ≡ join_with_byte 92 uids
joined_clean uids each =
    clean_of-unpadded (join_with_byte 92 uids) (λ front last e. no_padding last
    (last_plain front last (subst (λ (s : List ℕ). All IsPlain s) e (joined_plain uids each))))

-- ---- the pieces

no_separator : (uid : List ℕ) → IsUid uid → All (λ byte. (byte == 92) ≡ false) uid
no_separator uid is =
    All-weaker IsUidCharacter (λ byte. (byte == 92) ≡ false)
    (λ byte may. ne_eqb byte 92 (λ e. omega (arith, may.below, e))) uid (uid_characters uid is)

joined_pieces : (first : List ℕ) (others : List (List ℕ)) → AllByRecursion IsUid (first ∷ others)
    → pieces_of (join_with_byte 92 (first ∷ others)) ≡ first ∷ others
joined_pieces first [] each = slice_split_none (λ byte. byte == 92) first (no_separator first each.0)
joined_pieces first (next ∷ others) each =
    slice_split_at (λ byte. byte == 92) first 92 (join_with_byte 92 (next ∷ others)) (no_separator first each.0) refl
    ∙ ap (λ (l : List (List ℕ)). first ∷ l) (joined_pieces next others each.1)

-- the value that is written for UIDs names them
written_pieces : (first : List ℕ) (others : List (List ℕ)) → AllByRecursion IsUid (first ∷ others)
    → pieces_of (clean_of (withdrawn_value (first ∷ others))) ≡ first ∷ others
written_pieces first others each =
    ap pieces_of (clean_of-padded 0x20 (join_with_byte 92 (first ∷ others)) refl ∙ joined_clean (first ∷ others) each)
    ∙ joined_pieces first others each

-- so what is read from a directory is the list of UIDs that was written into it
pub withdrawn_read : (label : Label) (versions : List Parts) (withdrawn : List (List ℕ))
    → AllByRecursion IsUid withdrawn → pieces_in (withdrawn_in (directory_set label versions withdrawn)) ≡ withdrawn
withdrawn_read label versions [] each = refl
withdrawn_read label versions (first ∷ others) each = written_pieces first others each
