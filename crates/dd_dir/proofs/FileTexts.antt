-- The text of a File ID of four ranks is a File ID, as any producer may write it, and has no padding.
use Rattle.std.proofs.Common.{◌≡◌, ◌≢◌, ◌≤◌, ◌<◌, ◌+◌, ◌-◌, ◌^◌, ◌%◌, ℕ, true, List, [], ◌∷◌, ◌++◌}
use Rattle.std.proofs.Common.{length, replicate, All, refl, sym, subst, inl, inr, arith, length-append}
use Rattle.std.specs.Prelude.{codes, decimal}
use Rattle.std.specs.List.{join_with_byte}
use Rattle.std.proofs.lemmas.Fmt.{decimal_by_steps}
use Rattle.std.proofs.lemmas.List.Elements.{All-nil, All-cons, All-head, All-tail, All-append}
use Rattle.std.proofs.lemmas.List.Elements.{All-replicate, All-weaker}
use Rattle.dd_elem.specs.Clean.{clean_of}
use Rattle.dd_elem.specs.FileId.{AreRanks, IsRank, Ranks, six_digits, text_of}
use Rattle.dd_elem.specs.FileIdForm.{IsFileId, IsFileIdComponent, is_file_id_form}
use Rattle.dd_elem.specs.Characters.{IsIdCharacter}
use Rattle.dd_elem.proofs.Cleaning.{clean_of-unpadded}
use Rattle.dd_elem.proofs.FileIdForms.{form_decides}
use Rattle.dd_elem.proofs.SixDigits.{length-six_digits}

-- ---- the components

digit_may : (d : ℕ) → d < 10 → IsIdCharacter (48 + d)
digit_may d small = inr (inl (omega arith, omega (arith, small)))

one_may : (d : ℕ) → d < 10 → All IsIdCharacter ((48 + d) ∷ [])
one_may d small = All-cons IsIdCharacter (48 + d) [] (digit_may d small) (All-nil IsIdCharacter)

decimal_may : (n : ℕ) → n < 2 ^ 64 → All IsIdCharacter (decimal n)
decimal_may n room = decimal_by_steps (λ m ds. All IsIdCharacter ds) one_may
    (λ m ds large h. All-append IsIdCharacter ds ((48 + m % 10) ∷ []) h (one_may (m % 10) (omega arith))) n room

digits_may : (rank : ℕ) → IsRank rank → All IsIdCharacter (six_digits rank)
digits_may rank is = All-append IsIdCharacter (replicate (6 - length (decimal rank)) 48) (decimal rank)
    (All-replicate IsIdCharacter (6 - length (decimal rank)) 48 (digit_may 0 (omega arith)))
    (decimal_may rank (omega (arith, is.1)))

component_is : (a b rank : ℕ) → IsIdCharacter a → IsIdCharacter b → IsRank rank
    → IsFileIdComponent (a ∷ b ∷ six_digits rank)
component_is a b rank first second is =
    let long = length-six_digits rank is in
    record {
      characters = All-cons IsIdCharacter a (b ∷ six_digits rank) first
          (All-cons IsIdCharacter b (six_digits rank) second (digits_may rank is));
      not_empty = omega arith;
      short = omega (arith, long);
    }

letter : (a : ℕ) → 65 ≤ a → a ≤ 90 → IsIdCharacter a
letter a low high = inl (low, high)

-- ---- the text

pub text_is : (ranks : Ranks) → AreRanks ranks → IsFileId (text_of ranks)
unfolding text_of
text_is ranks are =
    let patient = component_is 80 84 ranks.patient (letter 80 (omega arith) (omega arith))
    (letter 84 (omega arith) (omega arith)) are.patient in
    let study = component_is 83 84 ranks.study (letter 83 (omega arith) (omega arith))
    (letter 84 (omega arith) (omega arith)) are.study in
    let series = component_is 83 69 ranks.series (letter 83 (omega arith) (omega arith))
    (letter 69 (omega arith) (omega arith)) are.series in
    let image = component_is 73 77 ranks.image (letter 73 (omega arith) (omega arith))
    (letter 77 (omega arith) (omega arith)) are.image in
    let p = codes "PT" ++ six_digits ranks.patient in
    let t = codes "ST" ++ six_digits ranks.study in
    let s = codes "SE" ++ six_digits ranks.series in
    let i = codes "IM" ++ six_digits ranks.image in
    record {
      components = p ∷ t ∷ s ∷ i ∷ [];
      each = All-cons IsFileIdComponent p (t ∷ s ∷ i ∷ []) patient (All-cons IsFileIdComponent t (s ∷ i ∷ []) study
          (All-cons IsFileIdComponent s (i ∷ []) series (All-cons IsFileIdComponent i [] image
          (All-nil IsFileIdComponent))));
      joined = refl;
      some = omega arith;
      few = omega arith;
    }

pub text_suits : (ranks : Ranks) → AreRanks ranks → is_file_id_form (text_of ranks) ≡ true
text_suits ranks are = (form_decides (text_of ranks)).1 (text_is ranks are)

pub text_short : (ranks : Ranks) → AreRanks ranks → length (text_of ranks) ≤ 1024
unfolding text_of
text_short ranks are =
    let p = length-six_digits ranks.patient are.patient in
    let t = length-six_digits ranks.study are.study in
    let s = length-six_digits ranks.series are.series in
    let i = length-six_digits ranks.image are.image in
    let c = codes "SE" ++ six_digits ranks.series in
    let d = codes "IM" ++ six_digits ranks.image in
    let b = codes "ST" ++ six_digits ranks.study in
    let one = length-append (codes "PT" ++ six_digits ranks.patient) (92 ∷ (b ++ 92 ∷ (c ++ 92 ∷ d))) in
    let two = length-append b (92 ∷ (c ++ 92 ∷ d)) in
    let three = length-append c (92 ∷ d) in
    omega (arith, one, two, three, p, t, s, i)

-- ---- no padding

-- neither NUL nor space
abbrev IsNoPadding : ℕ → Type 0
IsNoPadding byte = (byte ≢ 0) × (byte ≢ 32)

character_is_none : (byte : ℕ) → IsIdCharacter byte → IsNoPadding byte
character_is_none byte may = (λ e. omega (arith, may, e), λ e. omega (arith, may, e))

joined_has_none : (components : List (List ℕ)) → All IsFileIdComponent components
    → All IsNoPadding (join_with_byte 92 components)
joined_has_none [] each = All-nil IsNoPadding
joined_has_none (one ∷ []) each =
    All-weaker IsIdCharacter IsNoPadding character_is_none one (All-head IsFileIdComponent one [] each).characters
joined_has_none (one ∷ next ∷ more) each =
    let head = All-weaker IsIdCharacter IsNoPadding character_is_none one
    (All-head IsFileIdComponent one (next ∷ more) each).characters in
    let rest = joined_has_none (next ∷ more) (All-tail IsFileIdComponent one (next ∷ more) each) in
    All-append IsNoPadding one (92 ∷ join_with_byte 92 (next ∷ more)) head
    (All-cons IsNoPadding 92 (join_with_byte 92 (next ∷ more)) (λ e. omega arith, λ e. omega arith) rest)

ends_unpadded : (front : List ℕ) (last : ℕ) → All IsNoPadding (front ++ last ∷ []) → IsNoPadding last
ends_unpadded [] last each = All-head IsNoPadding last [] each
ends_unpadded (byte ∷ front) last each = ends_unpadded front last (All-tail IsNoPadding byte (front ++ last ∷ []) each)

pub text_clean : (ranks : Ranks) → AreRanks ranks → clean_of (text_of ranks) ≡ text_of ranks
text_clean ranks are =
    let is = text_is ranks are in
    let each : All IsNoPadding (text_of ranks) =
    subst (λ (s : List ℕ). All IsNoPadding s) (sym is.joined) (joined_has_none is.components is.each) in
    clean_of-unpadded (text_of ranks)
    (λ front last e. ends_unpadded front last (subst (λ (s : List ℕ). All IsNoPadding s) e each))
