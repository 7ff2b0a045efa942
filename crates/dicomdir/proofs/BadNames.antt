-- The sources that have no path, by their numbers, and what is read of the others.
use Rattle.std.proofs.Common.{◌≡◌, ◌∙◌, ◌<◌, ◌≤◌, ◌⊎◌, ℕ, zero, suc, Bool, true, false, List, [], ◌∷◌, Option, None}
use Rattle.std.proofs.Common.{Some}
use Rattle.std.proofs.Common.{Global, String, Ok, Err, Result, arith, get_or, inl, inr, length, map, refl, string_bytes}
use Rattle.std.proofs.Common.{subst}
use Rattle.std.proofs.lemmas.Bool.Decides.{nat_tests}
use Rattle.std.proofs.lemmas.List.{get_or_default}
use Rattle.std.proofs.lemmas.List.Sorted.{searched}
use Rattle.std.proofs.lemmas.Map.Views.{Contains-from_any, list_any-from_Contains}
use Rattle.std.proofs.lemmas.Str.{IsUtf8-had}
use Rattle.std.specs.Cmp.{nat_eq_equiv}
use Rattle.std.specs.Ordering.{nat_cmp}
use Rattle.std.specs.List.{Contains}
use Rattle.std.specs.List.Sorted.{IsBinarySearchResult}
use Rattle.std.specs.Prelude.{IfSome, IsSome, IsSomeAnd, is_ok, nat_eq, slice_get}
use Rattle.std.specs.Str.{IsUtf8}
use Rattle.dd_keys.specs.Sources.{Answer, AnswersSource}
use Rattle.dd_sources.specs.Supply.{IsAnswer}
use Rattle.dd_files.specs.Files.{Held}
use Rattle.dicomdir.specs.FileSupply.{IsThere, contents_at, contents_by, is_one}
use Rattle.dicomdir.specs.Indexes.{AnswersName, most_of_source}
use Rattle.dd_inputs.specs.ListedNames.{AreRising, HavePaths}

-- ---- a search among the numbers

pub before_or_past : (at count : ℕ) → (at < count) ⊎ (count ≤ at)
before_or_past at zero = inr (omega arith)
before_or_past zero (suc count) = inl (omega arith)
before_or_past (suc at) (suc count) = elim (before_or_past at count) [
  | inl before ↦ inl (omega (arith, before))
  | inr past ↦ inr (omega (arith, past))
]

same_number : (a b : ℕ) → nat_eq a b ≡ true → a ≡ b
same_number a b is = search (arith, nat_tests, is)

is_contained : (numbers : List ℕ) (at : ℕ) → is_one numbers at ≡ true → Contains numbers at
is_contained numbers at is = Contains-from_any same_number at numbers is

not_true : (b : Bool) → (b ≡ true → ⊥) → b ≡ false
not_true true amiss = absurd (amiss refl)
not_true false amiss = refl

pub found : (numbers : List ℕ) (at : ℕ) (r : Result ℕ ℕ) → AreRising numbers
    → IsBinarySearchResult (λ number. nat_cmp number at) numbers r → is_ok r ≡ is_one numbers at
found numbers at (Ok place) rising is =
    let h = searched numbers at (Ok place) is rising in
    let has : Contains numbers at = (place, h.0, get_or_default numbers place at 0 h.0 ∙ h.1) in
    rw (list_any-from_Contains nat_eq_equiv at numbers has) refl
found numbers at (Err place) rising is =
    let h = searched numbers at (Err place) is rising in
    let none : is_one numbers at ≡ true → ⊥ = λ one.
    let has = is_contained numbers at one in
    let here : get_or numbers has.0 0 ≡ at = get_or_default numbers has.0 0 at has.1 ∙ has.2 in
    elim (before_or_past has.0 place) [
      | inl before ↦ omega (arith, here, h.1 has.0 before)
      | inr past ↦ omega (arith, here, h.2 has.0 past has.1)
    ] in
    rw (not_true (is_one numbers at) none) refl

-- ---- one source

pub get_at : (xs : List (List ℕ)) (at : ℕ) → at < length xs → slice_get xs at ≡ Some (get_or xs at [])
get_at [] at within = absurd (omega (arith, within))
get_at (x ∷ xs) zero within = refl
get_at (x ∷ xs) (suc at) within = get_at xs at (omega (arith, within))

texts_utf8 : (texts : List (String Global)) (at : ℕ) → at < length (map (λ text. string_bytes text) texts)
    → IsUtf8 (get_or (map (λ text. string_bytes text) texts) at [])
texts_utf8 [] at within = absurd (omega (arith, within))
texts_utf8 (text ∷ texts) zero within = IsUtf8-had (string_bytes text) text.ok
texts_utf8 (text ∷ texts) (suc at) within = texts_utf8 texts at (omega (arith, within))

-- the file at a path, where the files say what they hold and one stands there
file_right : (old : Option Held) (path : List ℕ) (Is : List ℕ → Type 0) → IfSome (contents_at old path) Is
    → IfSome old (λ files. IsSome (files.bytes_at path)) → IfSome old (λ files. IsSomeAnd (files.bytes_at path) Is)
file_right None path Is h stands = tt
file_right (Some files) path Is h stands = by (files.bytes_at path) h stands
  where
    by : (file : Option (List ℕ)) → IfSome file Is → IsSome file → IsSomeAnd file Is
    by None h stands = absurd (cc)
    by (Some bytes) h stands = h

-- a source that is there has its name as its path
pub there_named : (sources : List (List ℕ)) (texts : List (String Global)) (bad : List ℕ) (old : Option Held)
    → HavePaths sources (map (λ text. string_bytes text) texts) bad → (at : ℕ) → at < length sources
    → IsThere old (map (λ text. string_bytes text) texts) bad at
    → get_or (map (λ text. string_bytes text) texts) at [] ≡ get_or sources at []
there_named sources texts bad old have at within there = have.named at within (λ has.
    let one : is_one bad at ≡ true = list_any-from_Contains nat_eq_equiv at bad has in
    let not = there.named in absurd (cc))

-- the answer for a source of the supply is that for its name
pub answers_name : (sources : List (List ℕ)) (texts : List (String Global)) (bad : List ℕ) (old : Option Held)
    → HavePaths sources (map (λ text. string_bytes text) texts) bad → (at : ℕ) → at < length sources
    → (answer : Answer)
    → IsAnswer most_of_source (contents_by old (map (λ text. string_bytes text) texts) at) answer
    → IsThere old (map (λ text. string_bytes text) texts) bad at → AnswersName old (get_or sources at []) answer
answers_name sources texts bad old have at within answer is there =
    let inside : at < length paths = omega (arith, within, have.count) in
    let same = there_named sources texts bad old have at within there in
    let Right : List ℕ → Type 0 = λ file. AnswersSource most_of_source file answer in
    record {
      settled = is.settled;
      path = subst IsUtf8 same (texts_utf8 texts at inside);
      right = subst (λ (path : List ℕ). IfSome old (λ files. IsSomeAnd (files.bytes_at path) Right)) same
          (file_right old (get_or paths at []) Right (rw (get_at paths at inside) at is.right) there.stands);
    }
  where
    paths : List (List ℕ)
    paths = map (λ text. string_bytes text) texts
