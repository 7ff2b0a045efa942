-- The paths of one source more, and of the names of a list.
use Rattle.std.proofs.Common.{◌≡◌, ◌≢◌, ◌∙◌, ◌++◌, ◌+◌, ◌-◌, ◌<◌, ◌⊎◌, ℕ, zero, suc, Bool, List, [], ◌∷◌, ap, ap₂, append_assoc}
use Rattle.std.proofs.Common.{append-nil, arith, false, get_or, inl, inr, length, map, refl, string_bytes, subst, sym}
use Rattle.std.proofs.Common.{All, Global, None, Option, String}
use Rattle.dd_files.specs.Files.{Held}
use Rattle.std.specs.List.{Contains}
use Rattle.std.specs.Str.{IsUtf8}
use Rattle.std.proofs.lemmas.List.{get_or_append_left, get_or_push, length-append, length-map, map_push}
use Rattle.std.proofs.lemmas.List.Elements.{All-push, All-weaker, Contains-append_left, Contains-push}
use Rattle.dd_inputs.proofs.NameParts.{NamesRead, all_good, all_read, fails_next, name_read, none_read}
use Rattle.dd_inputs.specs.ListedNames.{AreNames, FailsAt, FindsSources, HavePaths, IsListed, parts, shown_name}

-- ---- one source more

-- an index of a list with one element more
pub last_or_before : (at count : ℕ) → at < count + 1 → (at < count) ⊎ (at ≡ count)
last_or_before zero zero within = inr refl
last_or_before zero (suc count) within = inl (omega arith)
last_or_before (suc at) zero within = absurd (omega (arith, within))
last_or_before (suc at) (suc count) within = elim (last_or_before at count (omega (arith, within))) [
  | inl before ↦ inl (omega (arith, before))
  | inr same ↦ inr (ap suc same)
]

module _ (sources paths : List (List ℕ)) (bad : List ℕ) (name path : List ℕ) (have : HavePaths sources paths bad) where
  -- what is said of a number that is no path is still so
  still_bad : (at : ℕ) → (at < length sources) × ¬ IsUtf8 (get_or sources at [])
      → (at < length (sources ++ name ∷ [])) × ¬ IsUtf8 (get_or (sources ++ name ∷ []) at [])
  still_bad at h = (
    omega (arith, h.0, length-append sources (name ∷ [])),
    λ utf8. h.1 (subst IsUtf8 (get_or_append_left sources (name ∷ []) [] at h.0) utf8),
  )

  longer : length (paths ++ path ∷ []) ≡ length (sources ++ name ∷ [])
  longer = omega (arith, have.count, length-append paths (path ∷ []), length-append sources (name ∷ []))

  -- an earlier path is as it was
  still_named : (at : ℕ) → at < length sources → ¬ Contains bad at
      → get_or (paths ++ path ∷ []) at [] ≡ get_or (sources ++ name ∷ []) at []
  still_named at within other =
      get_or_append_left paths (path ∷ []) [] at (omega (arith, within, have.count))
      ∙ have.named at within other ∙ sym (get_or_append_left sources (name ∷ []) [] at within)

  -- so is what stands there for a name that is no path
  still_shown : All (λ at. get_or (paths ++ path ∷ []) at [] ≡ shown_name (get_or (sources ++ name ∷ []) at [])) bad
  still_shown = λ k d within.
      let at = get_or bad k d in
      let inside = (have.others k d within).0 in
      get_or_append_left paths (path ∷ []) [] at (omega (arith, inside, have.count))
      ∙ have.shown k d within ∙ ap shown_name (sym (get_or_append_left sources (name ∷ []) [] at inside))

-- the path of a source is its name
pub with_name : (sources paths : List (List ℕ)) (bad : List ℕ) (name : List ℕ) → HavePaths sources paths bad
    → HavePaths (sources ++ name ∷ []) (paths ++ name ∷ []) bad
with_name sources paths bad name have = record {
  count = longer sources paths bad name name have;
  named = λ at within other.
      elim (last_or_before at (length sources) (omega (arith, within, length-append sources (name ∷ [])))) [
        | inl before ↦ still_named sources paths bad name name have at before other
        | inr last ↦ get_or_push paths name [] at (have.count ∙ sym last) ∙ sym (get_or_push sources name [] at (sym last))
      ];
  others = All-weaker _ _ (still_bad sources paths bad name name have) bad have.others;
  shown = still_shown sources paths bad name name have;
  rising = have.rising;
}

-- a source whose name is not UTF-8 has no path
pub with_bad : (sources paths : List (List ℕ)) (bad : List ℕ) (name path : List ℕ) → ¬ IsUtf8 name
    → path ≡ shown_name name
    → HavePaths sources paths bad → HavePaths (sources ++ name ∷ []) (paths ++ path ∷ []) (bad ++ length paths ∷ [])
with_bad sources paths bad name path amiss is have =
    let number = length paths in
    record {
      count = longer sources paths bad name path have;
      named = λ at within other.
          elim (last_or_before at (length sources) (omega (arith, within, length-append sources (name ∷ [])))) [
            | inl before ↦ still_named sources paths bad name path have at before
                (λ has. other (Contains-append_left bad (number ∷ []) at has))
            | inr last ↦ absurd (other (subst (Contains (bad ++ number ∷ [])) (have.count ∙ sym last)
                (Contains-push bad number)))
          ];
      others = All-push (λ at. (at < length (sources ++ name ∷ []))
          × ¬ IsUtf8 (get_or (sources ++ name ∷ []) at []))
          bad number (All-weaker _ _ (still_bad sources paths bad name path have) bad have.others) (
            omega (arith, have.count, length-append sources (name ∷ [])),
            λ utf8. amiss (subst IsUtf8 (get_or_push sources name [] number (sym have.count)) utf8),
          );
      shown = All-push (λ at. get_or (paths ++ path ∷ []) at [] ≡ shown_name (get_or (sources ++ name ∷ []) at []))
          bad number (still_shown sources paths bad name path have)
          (get_or_push paths path [] number refl ∙ is
          ∙ ap shown_name (sym (get_or_push sources name [] number (sym have.count))));
      rising = λ one other low high.
          elim (last_or_before other (length bad) (omega (arith, high, length-append bad (number ∷ [])))) [
            | inl before ↦
                rw (
                  get_or_append_left bad (number ∷ []) 0 one (omega (arith, low, before)),
                  get_or_append_left bad (number ∷ []) 0 other before,
                )
                (have.rising one other low before)
            | inr last ↦ rw (get_or_push bad number 0 other (sym last))
                (elim (last_or_before one (length bad) (omega (arith, low, last))) [
                  | inl earlier ↦ rw (get_or_append_left bad (number ∷ []) 0 one earlier)
                      (omega (arith, (have.others one 0 earlier).0, have.count))
                  | inr same ↦ rw (get_or_push bad number 0 one (sym same)) (omega arith)
                ])
          ];
    }

-- the names that are given are paths
pub have_given : (sources paths : List (List ℕ)) → paths ≡ sources → HavePaths sources paths []
have_given sources paths is = record {
  count = ap length is;
  named = λ at within other. ap (λ (xs : List (List ℕ)). get_or xs at []) is;
  others = λ k d within. absurd (omega (arith, within));
  shown = λ k d within. absurd (omega (arith, within));
  rising = λ one other low high. absurd (omega (arith, high));
}

-- where there is no list, they are all sources
pub finds_given : (keeps_going : Bool) (given : List (List ℕ)) (files : Option Held)
    → FindsSources keeps_going None given files given []
finds_given keeps_going given files = record {
  sources = given;
  are = refl;
  have = have_given given given refl;
  none = λ _. refl;
}

-- where there is no such number, they are all
same_names : (sources paths : List (List ℕ)) → length paths ≡ length sources
    → ((at : ℕ) → at < length sources → get_or paths at [] ≡ get_or sources at []) → paths ≡ sources
same_names [] [] count same = refl
same_names [] (path ∷ paths) count same = absurd (omega (arith, count))
same_names (name ∷ sources) [] count same = absurd (omega (arith, count))
same_names (name ∷ sources) (path ∷ paths) count same =
    ap₂ (λ (x : List ℕ) (xs : List (List ℕ)). x ∷ xs) (same 0 (omega arith))
    (same_names sources paths (omega (arith, count)) (λ at within. same (suc at) (omega (arith, within))))

pub all_named : (sources paths : List (List ℕ)) → HavePaths sources paths [] → paths ≡ sources
all_named sources paths have = same_names sources paths have.count
    (λ at within. have.named at within (λ has. absurd (omega (arith, has.1))))

-- the same of texts that were pushed
pub pushed_bad : (given : List (List ℕ)) (part : List ℕ) (old new : List (String Global)) (path : String Global)
    (bad bad_new : List ℕ) → ¬ IsUtf8 part → string_bytes path ≡ shown_name part → new ≡ old ++ path ∷ []
    → bad_new ≡ bad ++ length old ∷ []
    → HavePaths given (map (λ text. string_bytes text) old) bad
    → HavePaths (given ++ part ∷ []) (map (λ text. string_bytes text) new) bad_new
pushed_bad given part old new path bad bad_new amiss shown is numbers have =
    let texts = map (λ (text : String Global). string_bytes text) old in
    rw (is, numbers, map_push (λ (text : String Global). string_bytes text) old path)
    (subst (λ (n : ℕ). HavePaths (given ++ part ∷ []) (texts ++ string_bytes path ∷ []) (bad ++ n ∷ []))
    (length-map old (λ (text : String Global). string_bytes text))
    (with_bad given texts bad part (string_bytes path) amiss shown have))

-- ---- the names of a list

pub none_of : {A : Type 0} (xs : List A) → length xs ≡ 0 → xs ≡ []
none_of [] is = refl
none_of (x ∷ xs) is = absurd (omega (arith, is))

-- these names were added, and the other parts are left
pub record NamesAdded (keeps_going : Bool) (list rest : List ℕ) (before : List (List ℕ)) (bad_before : List ℕ)
    (paths : List (List ℕ)) (bad : List ℕ) : Type 0 where
  pub names : List (List ℕ)
  pub read : NamesRead keeps_going list names rest
  pub have : (given : List (List ℕ)) → HavePaths given before bad_before → HavePaths (given ++ names) paths bad
  pub count : length paths ≡ length before + length names
  pub none : keeps_going ≡ false → bad ≡ bad_before

pub none_added : (keeps_going : Bool) (list : List ℕ) (paths : List (List ℕ)) (bad : List ℕ)
    → NamesAdded keeps_going list list paths bad paths bad
none_added keeps_going list paths bad = record {
  names = [];
  read = none_read keeps_going list;
  have = λ given have. subst (λ (xs : List (List ℕ)). HavePaths xs paths bad) (sym (append-nil given)) have;
  count = omega arith;
  none = λ _. refl;
}

module _ (keeps_going : Bool) (list rest : List ℕ) (before : List (List ℕ)) (bad_before : List ℕ)
    (paths : List (List ℕ)) (bad : List ℕ) (so_far : NamesAdded keeps_going list rest before bad_before paths bad) where
  pub name_added : (part later : List ℕ) (next : List (List ℕ)) (bad_next : List ℕ)
      → parts rest ≡ part ∷ parts later → IsListed keeps_going part
      → ((given : List (List ℕ)) → HavePaths given paths bad → HavePaths (given ++ part ∷ []) next bad_next)
      → length next ≡ length paths + 1 → (keeps_going ≡ false → bad_next ≡ bad) → NamesAdded keeps_going list later before bad_before next bad_next
  name_added part later next bad_next is good one more still = record {
    names = so_far.names ++ part ∷ [];
    read = name_read keeps_going list so_far.names part rest later is so_far.read good;
    have = λ given have. subst (λ (xs : List (List ℕ)). HavePaths xs next bad_next)
        (append_assoc given so_far.names (part ∷ [])) (one (given ++ so_far.names) (so_far.have given have));
    count = omega (arith, more, so_far.count, length-append so_far.names (part ∷ []));
    none = λ ends. still ends ∙ so_far.none ends;
  }

  pub all_added : rest ≡ [] → (given : List (List ℕ)) → HavePaths given before bad_before
      → HavePaths (given ++ parts list) paths bad
  all_added none given have = subst (λ (xs : List (List ℕ)). HavePaths (given ++ xs) paths bad)
      (all_read keeps_going list so_far.names rest none so_far.read) (so_far.have given have)

  pub added_good : rest ≡ [] → list ≢ [] → AreNames keeps_going (parts list)
  added_good none some = all_good keeps_going list so_far.names rest none some so_far.read

  pub added_fails : (part later : List ℕ) → parts rest ≡ part ∷ parts later → ¬ IsListed keeps_going part
      → FailsAt keeps_going (parts list) (length paths - length before + 1)
  added_fails part later is bad =
      let many : length so_far.names ≡ length paths - length before = omega (arith, so_far.count) in
      subst (λ (n : ℕ). FailsAt keeps_going (parts list) (n + 1)) many
      (fails_next keeps_going list so_far.names part rest later is so_far.read bad)
