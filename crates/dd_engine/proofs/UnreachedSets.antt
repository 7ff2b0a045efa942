-- The sets with records that are not reached: what one set more adds.
use Rattle.std.specs.Prelude.{◌≡◌, ◌<◌, ◌+◌, true, false, ℕ, suc, nat_lt, List, [], ◌∷◌, ◌++◌, length, map, filter}
use Rattle.std.specs.Prelude.{take, get_or}
use Rattle.std.specs.List.{enumerate_from}
use Rattle.std.proofs.Common.{refl, sym, ◌∙◌, ap, ap₂, arith}
use Rattle.std.proofs.lemmas.List.{append-nil, length-take-le, map-append, take_more}
use Rattle.std.proofs.lemmas.List.Elements.{filter-append}
use Rattle.dd_engine.specs.declared.set_notes.Unreached.{Unreached}

pub places_more : {X : Type 0} (n : ℕ) (xs : List X) (x : X)
    → enumerate_from n (xs ++ x ∷ []) ≡ enumerate_from n xs ++ (n + length xs, x) ∷ []
places_more n [] x =
    let at : n ≡ n + 0 = omega arith in
    ap (λ (k : ℕ). (k, x) ∷ []) at
places_more n (y ∷ xs) x =
    let at : (n + 1) + length xs ≡ n + suc (length xs) = omega arith in
    ap (λ l. (n, y) ∷ l) (places_more (n + 1) xs x ∙ ap (λ (k : ℕ). enumerate_from (n + 1) xs ++ (k, x) ∷ []) at)

-- the numbers of notes
abbrev pub shown : List Unreached → List (ℕ × ℕ)
shown notes = map (λ note. (note.set, note.records)) notes

module _ (counts : List ℕ) (i : ℕ) (count : ℕ) where
  step : i < length counts → get_or counts i 0 ≡ count
      → filter (λ set. nat_lt 0 set.1) (enumerate_from 0 (take (i + 1) counts))
      ≡ filter (λ set. nat_lt 0 set.1) (enumerate_from 0 (take i counts))
      ++ filter (λ set. nat_lt 0 set.1) ((i, count) ∷ [])
  step below is =
      let all = length-take-le i counts (omega arith) in
      let many : 0 + length (take i counts) ≡ i = omega (arith, all) in
      ap (λ l. filter (λ set. nat_lt 0 set.1) (enumerate_from 0 l))
      (take_more counts i 0 below ∙ ap (λ c. take i counts ++ c ∷ []) is)
      ∙ ap (filter (λ set. nat_lt 0 set.1)) (places_more 0 (take i counts) count
      ∙ ap (λ (k : ℕ). enumerate_from 0 (take i counts) ++ (k, count) ∷ []) many)
      ∙ filter-append (λ set. nat_lt 0 set.1) (enumerate_from 0 (take i counts)) ((i, count) ∷ [])

  pub set_more : (notes : List Unreached) → i < length counts → get_or counts i 0 ≡ count → nat_lt 0 count ≡ true
      → map (λ note. (note.set, note.records)) notes
      ≡ filter (λ set. nat_lt 0 set.1) (enumerate_from 0 (take i counts))
      → map (λ note. (note.set, note.records)) (notes ++ record { set = i; records = count } ∷ [])
      ≡ filter (λ set. nat_lt 0 set.1) (enumerate_from 0 (take (i + 1) counts))
  set_more notes below is unreached before =
      let here : filter (λ (set : ℕ × ℕ). nat_lt 0 set.1) ((i, count) ∷ []) ≡ (i, count) ∷ [] = rw unreached refl in
      map-append (λ (note : Unreached). (note.set, note.records)) notes (record { set = i; records = count } ∷ [])
      ∙ ap₂ (λ (a b : List (ℕ × ℕ)). a ++ b) before (sym here) ∙ sym (step below is)

  pub set_passed : (notes : List (ℕ × ℕ)) → i < length counts → get_or counts i 0 ≡ count → nat_lt 0 count ≡ false
      → notes ≡ filter (λ set. nat_lt 0 set.1) (enumerate_from 0 (take i counts))
      → notes ≡ filter (λ set. nat_lt 0 set.1) (enumerate_from 0 (take (i + 1) counts))
  set_passed notes below is reached before =
      let here : filter (λ (set : ℕ × ℕ). nat_lt 0 set.1) ((i, count) ∷ []) ≡ [] = rw reached refl in
      before ∙ sym (append-nil (filter (λ set. nat_lt 0 set.1) (enumerate_from 0 (take i counts))))
      ∙ ap (λ l. filter (λ set. nat_lt 0 set.1) (enumerate_from 0 (take i counts)) ++ l) (sym here)
      ∙ sym (step below is)
