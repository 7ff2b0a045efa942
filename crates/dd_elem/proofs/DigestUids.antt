-- The UIDs of digests are UIDs.
use Rattle.std.proofs.Common.{◌≡◌, ◌≤◌, ◌<◌, ◌+◌, ◌-◌, ◌/◌, ◌%◌, ◌^◌, ℕ, zero, suc}
use Rattle.std.proofs.Common.{List, [], ◌∷◌, ◌++◌, length, take, refl, sym, ap, ◌∙◌, arith, length-append}
use Rattle.std.specs.Prelude.{All, replicate, slice_index, codes, decimal}
use Rattle.std.proofs.lemmas.Fmt.{decimal_by_steps_wide}
use Rattle.std.proofs.lemmas.List.Elements.{All-nil, All-cons, All-append}
use borrow.Rule.Slice.PartMut.{put_mid}
use Rattle.std.proofs.lemmas.List.{drop-replicate}
use Rattle.std.proofs.Math.Seq.{take-append_seam}
use Rattle.dd_elem.specs.InPlace.{IsFilled, filled}
use Rattle.dd_elem.specs.Characters.{IsDigit}
use Rattle.dd_elem.specs.Uid.{IsComponent, IsUid}

-- ---- a decimal number is a component

-- the text is one of a number: digits, of which the first is `0` only where the number is 0
record IsNumber (n : ℕ) (text : List ℕ) : Type 0 where
  digits : All IsDigit text
  not_empty : 1 ≤ length text
  first : 0 < n → 48 < slice_index text 0
  zero_alone : n ≡ 0 → length text ≡ 1

digit : (byte : ℕ) → IsDigit byte → All IsDigit (byte ∷ [])
digit byte h = All-cons IsDigit byte [] h (All-nil IsDigit)

first_stays : (text more : List ℕ) → 1 ≤ length text → slice_index (text ++ more) 0 ≡ slice_index text 0
first_stays [] more some = absurd (omega (arith, some))
first_stays (byte ∷ text) more some = refl

one_digit : (n : ℕ) → n < 10 → IsNumber n ((48 + n) ∷ [])
one_digit n small = record {
  digits = digit (48 + n) (omega arith, omega arith);
  not_empty = omega arith;
  first = λ some. omega arith;
  zero_alone = λ none. refl;
}

more_digits : (n : ℕ) (text : List ℕ) → 10 ≤ n → IsNumber (n / 10) text → IsNumber n (text ++ ((48 + n % 10) ∷ []))
more_digits n text large h =
    let last : List ℕ = (48 + n % 10) ∷ [] in
    let some : 0 < n / 10 = omega (arith, large) in
    record {
      digits = All-append IsDigit text last h.digits (digit (48 + n % 10) (omega arith, omega arith));
      not_empty = omega (arith, length-append text last);
      first = λ positive. rw (first_stays text last h.not_empty) (h.first some);
      zero_alone = λ none. absurd (omega (arith, none, large));
    }

decimal_number : (n : ℕ) → n < 10 ^ 64 → IsNumber n (decimal n)
decimal_number n room = decimal_by_steps_wide IsNumber one_digit more_digits n room

number_component : (n : ℕ) (text : List ℕ) → IsNumber n text → IsComponent text
number_component zero text h = record {
  digits = h.digits;
  not_empty = h.not_empty;
  no_leading_zero = λ zero_first. h.zero_alone refl;
}
number_component (suc n) text h = record {
  digits = h.digits;
  not_empty = h.not_empty;
  no_leading_zero = λ zero_first. absurd (omega (arith, h.first (omega arith), zero_first));
}

decimal_component : (n : ℕ) → n < 10 ^ 64 → IsComponent (decimal n)
decimal_component n room = number_component n (decimal n) (decimal_number n room)

-- ---- the UID

two : IsComponent (codes "2")
two = record {
  digits = digit 50 (omega arith, omega arith);
  not_empty = omega arith;
  no_leading_zero = λ zero_first. refl;
}

two_five : IsComponent (codes "25")
two_five = record {
  digits = All-cons IsDigit 50 (53 ∷ []) (omega arith, omega arith) (digit 53 (omega arith, omega arith));
  not_empty = omega arith;
  no_leading_zero = λ zero_first. absurd (omega (arith, zero_first));
}

-- `2.25.` and a number of at most 59 digits
number_uid : (n : ℕ) → n < 10 ^ 64 → length (decimal n) ≤ 59 → IsUid (codes "2.25." ++ decimal n)
number_uid n room short =
    let last : All IsComponent (decimal n ∷ []) =
    All-cons IsComponent (decimal n) [] (decimal_component n room) (All-nil IsComponent) in
    let others : All IsComponent (codes "25" ∷ decimal n ∷ []) =
    All-cons IsComponent (codes "25") (decimal n ∷ []) two_five last in
    record {
      components = codes "2" ∷ codes "25" ∷ decimal n ∷ [];
      each = All-cons IsComponent (codes "2") (codes "25" ∷ decimal n ∷ []) two others;
      joined = refl;
      not_empty = omega arith;
      short = omega (arith, short);
    }

-- ---- the text in its array

-- digits that are written after `2.25.`
pub number_after : (number written start : List ℕ) (count : ℕ) → start ≡ filled 64 (codes "2.25.") → written ≡ number
    → count ≡ length number → put_mid 5 count start written ≡ filled 64 (codes "2.25." ++ number)
number_after number written start count starts writes counts =
    let zeros : 59 - count ≡ 59 - length number = ap (λ (n : ℕ). 59 - n) counts in
    let same : 59 - length number ≡ 64 - length (codes "2.25." ++ number) = omega arith in
    ap (λ (l : List ℕ). put_mid 5 count l written) starts
    ∙ ap (λ (l : List ℕ). put_mid 5 count (filled 64 (codes "2.25.")) l) writes
    ∙ ap (λ (l : List ℕ). codes "2.25." ++ (number ++ l))
    (drop-replicate count 59 0 ∙ ap (λ (n : ℕ). replicate n 0) (zeros ∙ same))

-- the array with the text of a number after `2.25.` holds a UID
pub numbered_valid : (n : ℕ) (text number array : List ℕ) → n < 2 ^ 128 → text ≡ decimal n → length text ≤ 39
    → number ≡ text → array ≡ filled 64 (codes "2.25." ++ number)
    → IsFilled 64 array (5 + length number) × IsUid (take (5 + length number) array)
numbered_valid n text number array room is short same fills =
    let counted : 5 + length number ≡ length (codes "2.25." ++ number) = omega arith in
    let front : take (5 + length number) array ≡ codes "2.25." ++ number =
    ap (take (5 + length number)) fills
    ∙ ap (λ (k : ℕ). take k (filled 64 (codes "2.25." ++ number))) counted
    ∙ take-append_seam (codes "2.25." ++ number) (replicate (64 - length (codes "2.25." ++ number)) 0) in
    let digits : length (decimal n) ≤ 59 = omega (arith, short, ap length is) in
    let valid : IsUid (codes "2.25." ++ number) = rw (same, is) (number_uid n (omega (arith, room)) digits) in
    (record { within = ap length front ∙ sym counted; zeros = ap (filled 64) front ∙ sym fills }, rw front valid)
