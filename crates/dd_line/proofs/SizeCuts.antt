-- A text is cut before its unit in one way only.
use Rattle.std.proofs.Common.{◌≡◌, ◌⊎◌, ◌∙◌, ◌==◌, ◌<◌, ◌≤◌, ◌*◌, ℕ, Bool, true, false, cond, List, [], ◌∷◌, ◌++◌, ap}
use Rattle.std.proofs.Common.{◌^◌, Option, Some, None, inl, inr, refl, subst, sym, drop, arith, pos}
use Rattle.std.proofs.lemmas.List.{append-nil}
use Rattle.std.proofs.lemmas.Nat.{mul-le}
use Rattle.std.specs.Char.{digit_value}
use Rattle.std.specs.Option.{SomeIff}
use Rattle.std.specs.Prelude.{if◌then◌else◌, slice_index}
use Rattle.std.specs.Str.Parse.{AllDigits, IsNumeral, starts_with_minus, without_leading_sign}
use Rattle.dd_line.specs.Sizes.{IsCut, IsNumber, IsSize, IsUnit}

-- lists that end in one letter each have the same letter, and the same before it
last_letters : (xs ys : List ℕ) (a b : ℕ) → xs ++ (a ∷ []) ≡ ys ++ (b ∷ []) → (xs ≡ ys) × (a ≡ b)
last_letters [] [] a b e = (refl, cc)
last_letters [] (y ∷ []) a b e = cc
last_letters [] (y ∷ (z ∷ ys)) a b e = cc
last_letters (x ∷ []) [] a b e = cc
last_letters (x ∷ (z ∷ xs)) [] a b e = cc
last_letters (x ∷ xs) (y ∷ ys) a b e =
    let head : x ≡ y = cc in
    let rest : xs ++ (a ∷ []) ≡ ys ++ (b ∷ []) = cc in
    let later = last_letters xs ys a b rest in
    let tail : xs ≡ ys = later.0 in
    (rw (head, tail) refl, later.1)

-- ---- the letter of a unit

abbrev bytes_of : ℕ → ℕ
bytes_of letter =
    if letter == 75 then 1024 else if letter == 107 then 1024 else if letter == 77 then 1048576 else 1073741824

-- the mark is one letter, which is no digit and has these bytes
record IsLetter (mark : List ℕ) (bytes : ℕ) : Type 0 where
  letter : ℕ
  alone : mark ≡ letter ∷ []
  no_digit : digit_value letter < 10 → ⊥
  worth : bytes_of letter ≡ bytes

letter_or_none : (mark : List ℕ) (bytes : ℕ) → IsUnit mark bytes
    → ((mark ≡ []) × (bytes ≡ 1)) ⊎ IsLetter mark bytes
letter_or_none mark bytes (inl none) = inl none
letter_or_none mark bytes (inr (inl (inl k, worth))) = inr (record {
  letter = 75;
  alone = k;
  no_digit = λ few. omega (arith, few);
  worth = sym worth;
})
letter_or_none mark bytes (inr (inl (inr k, worth))) = inr (record {
  letter = 107;
  alone = k;
  no_digit = λ few. omega (arith, few);
  worth = sym worth;
})
letter_or_none mark bytes (inr (inr (inl m))) = inr (record {
  letter = 77;
  alone = m.0;
  no_digit = λ few. omega (arith, few);
  worth = sym m.1;
})
letter_or_none mark bytes (inr (inr (inr g))) = inr (record {
  letter = 71;
  alone = g.0;
  no_digit = λ few. omega (arith, few);
  worth = sym g.1;
})

-- ---- a number has no letter at its end

last_digit : (xs : List ℕ) (a : ℕ) → AllDigits 10 (xs ++ (a ∷ [])) → digit_value a < 10
last_digit [] a all = all.0
last_digit (x ∷ xs) a all = last_digit xs a all.1

not_numeral : (xs : List ℕ) (a : ℕ) → (digit_value a < 10 → ⊥) → IsNumeral 10 (without_leading_sign (xs ++ (a ∷ [])))
    → ⊥
not_numeral xs a none numeral =
    go xs (starts_with_minus (xs ++ (a ∷ []))) (slice_index (xs ++ (a ∷ [])) 0 == 43) numeral
  where
    without_first : (ys : List ℕ) → IsNumeral 10 (drop 1 (ys ++ (a ∷ []))) → ⊥
    without_first [] is = omega (arith, is.0)
    without_first (y ∷ ys) is = none (last_digit ys a is.1)

    go : (ys : List ℕ) (minus plus : Bool)
        → IsNumeral 10 (cond minus (drop 1 (ys ++ (a ∷ []))) (drop (cond plus 1 0) (ys ++ (a ∷ [])))) → ⊥
    go ys true plus is = without_first ys is
    go ys false true is = without_first ys is
    go ys false false is = none (last_digit ys a is.1)

-- ---- the cut

pub same_cut : (text digits others mark : List ℕ) (unit bytes : ℕ) → IsCut text digits unit → IsUnit mark bytes
    → text ≡ others ++ mark → IsNumeral 10 (without_leading_sign others) → (digits ≡ others) × (unit ≡ bytes)
same_cut text digits others mark unit bytes cut is whole numeral =
    go (letter_or_none cut.mark unit cut.is_unit) (letter_or_none mark bytes is)
  where
    both : cut.mark ≡ [] → mark ≡ [] → digits ≡ others
    both here there =
        let one : text ≡ digits = subst (λ (m : List ℕ). text ≡ digits ++ m) here cut.whole ∙ append-nil digits in
        let other : text ≡ others = subst (λ (m : List ℕ). text ≡ others ++ m) there whole ∙ append-nil others in
        sym one ∙ other

    go : ((cut.mark ≡ []) × (unit ≡ 1)) ⊎ IsLetter cut.mark unit → ((mark ≡ []) × (bytes ≡ 1)) ⊎ IsLetter mark bytes
        → (digits ≡ others) × (unit ≡ bytes)
    go (inl here) (inl there) = (both here.0 there.0, here.1 ∙ sym there.1)
    go (inl here) (inr l) =
        let none : mark ≡ [] = cut.none here.0 others mark bytes is whole in
        let some = l.alone in
        cc
    go (inr l) (inl there) =
        let whole_here : text ≡ digits ++ (l.letter ∷ []) = subst (λ (m : List ℕ). text ≡ digits ++ m) l.alone
        cut.whole in
        let other : text ≡ others = subst (λ (m : List ℕ). text ≡ others ++ m) there.0 whole ∙ append-nil others in
        absurd (not_numeral digits l.letter l.no_digit
        (subst (λ (t : List ℕ). IsNumeral 10 (without_leading_sign t)) (sym other ∙ whole_here) numeral))
    go (inr l) (inr k) =
        let here : text ≡ digits ++ (l.letter ∷ []) = subst (λ (m : List ℕ). text ≡ digits ++ m) l.alone cut.whole in
        let there : text ≡ others ++ (k.letter ∷ []) = subst (λ (m : List ℕ). text ≡ others ++ m) k.alone whole in
        let same = last_letters digits others l.letter k.letter (sym here ∙ there) in
        (same.0, sym l.worth ∙ (ap bytes_of same.1 ∙ k.worth))

-- where nothing stands after the number, it ends in no letter of a unit
pub no_letter : (text : List ℕ) → ((front : List ℕ) → text ≡ front ++ (75 ∷ []) → ⊥)
    → ((front : List ℕ) → text ≡ front ++ (107 ∷ []) → ⊥)
    → ((front : List ℕ) → text ≡ front ++ (77 ∷ []) → ⊥) → ((front : List ℕ) → text ≡ front ++ (71 ∷ []) → ⊥)
    → IsCut text text 1
no_letter text no_k no_small no_m no_g = record {
  mark = [];
  whole = sym (append-nil text);
  is_unit = inl (refl, refl);
  none = λ empty front other bytes is whole. go front other bytes is whole;
}
  where
    go : (front other : List ℕ) (bytes : ℕ) → IsUnit other bytes → text ≡ front ++ other → other ≡ []
    go front other bytes (inl none) whole = none.0
    go front other bytes (inr (inl (inl k, worth))) whole =
        absurd (no_k front (subst (λ (m : List ℕ). text ≡ front ++ m) k whole))
    go front other bytes (inr (inl (inr k, worth))) whole =
        absurd (no_small front (subst (λ (m : List ℕ). text ≡ front ++ m) k whole))
    go front other bytes (inr (inr (inl m))) whole =
        absurd (no_m front (subst (λ (x : List ℕ). text ≡ front ++ x) m.0 whole))
    go front other bytes (inr (inr (inr g))) whole =
        absurd (no_g front (subst (λ (x : List ℕ). text ≡ front ++ x) g.0 whole))

-- a unit has a byte at least
pub unit_some : (mark : List ℕ) (bytes : ℕ) → IsUnit mark bytes → 1 ≤ bytes
unit_some mark bytes (inl none) = omega (arith, none.1)
unit_some mark bytes (inr (inl k)) = omega (arith, k.1)
unit_some mark bytes (inr (inr (inl m))) = omega (arith, m.1)
unit_some mark bytes (inr (inr (inr g))) = omega (arith, g.1)

-- the number that stands before the unit of a size is no more than the size
pub number_least : (text : List ℕ) (bytes most : ℕ) (size : IsSize text bytes) → bytes ≤ most → size.number ≤ most
number_least text bytes most size few =
    let some = unit_some size.mark size.unit size.is_unit in
    let value = size.value in
    go size.unit some value
  where
    go : (unit : ℕ) → 1 ≤ unit → bytes ≡ size.number * unit → size.number ≤ most
    go unit some value =
        let nat_same : size.number ≤ size.number = omega arith in
        let least : size.number * 1 ≤ size.number * unit = mul-le size.number 1 size.number unit nat_same some in
        omega (arith, few, value, least)

-- ---- the product

-- a text spells one number
pub same_number : (text : List ℕ) (m n : ℕ) → IsNumber text m → IsNumber text n → m ≡ n
same_number text m n one other =
    let same : pos m ≡ pos n = sym one.1 ∙ other.1 in
    cc

-- a product that is a limit fits
pub product_fits : (r : Option ℕ) (m u n v bytes : ℕ) → SomeIff r (m * u < 2 ^ 32) (m * u) → r ≡ None → m ≡ n → u ≡ v
    → bytes ≡ n * v → bytes ≤ 4294967295 → ⊥
product_fits (Some x) m u n v bytes fits none one other value few = cc
product_fits None m u n v bytes fits none one other value few =
    let same : m * u ≡ n * v = rw (one, other) refl in
    let small : m * u < 2 ^ 32 = omega (arith, same, value, few) in
    absurd (fits small)
