-- Cleaning a value whose bytes come in pieces, and the front of what is left.
use Rattle.std.proofs.Common.{◌≡◌, ◌<◌, ◌≤◌, ℕ, ◌+◌, min, List, [], ◌∷◌, ◌++◌, length, take, refl, sym, ap, ◌∙◌, arith}
use Rattle.std.proofs.Common.{inl, inr}
use Rattle.std.proofs.lemmas.Bool.{cases_lt}
use Rattle.std.proofs.lemmas.List.{length-append, take_all, take-append-le, nil_from_length}
use Rattle.dd_elem.specs.Clean.{clean_of, keep}
use Rattle.dd_elem.proofs.Cleaning.{clean_of_begins}

-- padding after a value goes
clean_before_padding : (xs ys : List ℕ) → clean_of ys ≡ [] → clean_of (xs ++ ys) ≡ clean_of xs
clean_before_padding [] ys none = none
clean_before_padding (x ∷ xs) ys none = ap (keep x) (clean_before_padding xs ys none)

keep_before : (x : ℕ) (xs : List ℕ) → 0 < length xs → keep x xs ≡ x ∷ xs
keep_before x [] some = absurd (omega arith)
keep_before x (y ∷ ys) some = refl

-- what stays of a piece keeps all before it
clean_before_others : (xs ys : List ℕ) → 0 < length (clean_of ys) → clean_of (xs ++ ys) ≡ xs ++ clean_of ys
clean_before_others [] ys some = refl
clean_before_others (x ∷ xs) ys some =
    ap (keep x) (clean_before_others xs ys some) ∙ keep_before x (xs ++ clean_of ys)
    (omega (arith, length-append xs (clean_of ys)))

-- nothing stays of a piece
pub cleaned_same : (xs ys : List ℕ) → length (clean_of ys) ≡ 0 → length (clean_of (xs ++ ys)) ≡ length (clean_of xs)
cleaned_same xs ys none = ap length (clean_before_padding xs ys (nil_from_length (clean_of ys) none))

-- something does
pub cleaned_more : (xs ys : List ℕ) → 0 < length (clean_of ys)
    → length (clean_of (xs ++ ys)) ≡ length xs + length (clean_of ys)
cleaned_more xs ys some = ap length (clean_before_others xs ys some) ∙ length-append xs (clean_of ys)

-- as many as there are, or k
take_most : (k m : ℕ) (xs : List ℕ) → m ≡ min (length xs) k → take m xs ≡ take k xs
take_most k m xs is =
    elim (cases_lt k (length xs)) [
      | inl lt ↦ let same : m ≡ k = omega arith in ap (λ (n : ℕ). take n xs) same
      | inr le ↦ take_all m xs (omega arith) ∙ sym (take_all k xs le)
    ]

-- the front of a cleaned value stands in the front of the value
pub cleaned_front : (k m : ℕ) (xs ys : List ℕ) → m ≡ min (length (clean_of (xs ++ ys))) k → m ≤ length xs
    → take m xs ≡ take k (clean_of (xs ++ ys))
cleaned_front k m xs ys is within =
    let c = clean_of (xs ++ ys) in
    let b = clean_of_begins (xs ++ ys) in
    sym (take-append-le m xs ys within) ∙ ap (take m) b.1 ∙ take-append-le m c b.0 (omega arith) ∙ take_most k m c is
