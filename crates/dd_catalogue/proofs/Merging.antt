-- One value more in the best of a list.
use Rattle.std.specs.Prelude.{◌≡◌, ◌<◌, ◌≤◌, ◌+◌, ℕ, List, [], ◌∷◌, ◌++◌, length, get_or, take, map}
use Rattle.std.specs.List.Sorted.{IsPermutation}
use Rattle.std.specs.declared.cmp.Ordering.{Ordering}
use Rattle.std.proofs.Common.{sym, ◌∙◌, ap}
use Rattle.std.proofs.lemmas.List.{take_more, take_all, map-append}
use Rattle.std.proofs.lemmas.List.Sorted.{Contains-permutation, IsPermutation-sym}
use Rattle.dd_catalogue.specs.Best.{best, SameMembers}
use Rattle.dd_catalogue.specs.Rising.{Orders}
use Rattle.dd_catalogue.proofs.BestOfBests.{best_push}
use Rattle.dd_catalogue.proofs.BestMembers.{best_of_same}

one_more : {V : Type 0} (m : List V) (i : ℕ) (x : V) → i < length m → x ≡ get_or m i x
    → take (i + 1) m ≡ take i m ++ x ∷ []
one_more m i x below read = take_more m i x below ∙ ap (λ y. take i m ++ y ∷ []) (sym read)

pub taken_more : {B V K : Type 0} {key : V → K} {keys : K → K → Ordering} {values : V → V → Ordering}
    (o : Orders key keys values) (now : B → V) (xs : List B) (t t' : List V) (i : ℕ) (x : B)
    → i < length xs → x ≡ get_or xs i x → t ≡ best key keys values (map now (take i xs))
    → t' ≡ best key keys values (now x ∷ t)
    → t' ≡ best key keys values (map now (take (i + 1) xs))
taken_more {key = key} {keys = keys} {values = values} o now xs t t' i x below read before after =
    after ∙ ap (λ y. best key keys values (now x ∷ y)) before ∙ best_push o (now x) (map now (take i xs))
    ∙ ap (λ y. best key keys values y) (sym (map-append now (take i xs) (x ∷ [])))
    ∙ ap (λ y. best key keys values (map now y)) (sym (one_more xs i x below read))

permuted : {V : Type 0} (vs ws : List V) → IsPermutation vs ws → SameMembers ws vs
permuted vs ws p = λ v. (Contains-permutation ws vs v (IsPermutation-sym vs ws p), Contains-permutation vs ws v p)

pub taken_all : {B V K : Type 0} {key : V → K} {keys : K → K → Ordering} {values : V → V → Ordering}
    (o : Orders key keys values) (now : B → V) (vs : List V) (xs : List B) (t : List V) (n : ℕ)
    → IsPermutation vs (map now xs) → length xs ≤ n → t ≡ best key keys values (map now (take n xs))
    → t ≡ best key keys values vs
taken_all {key = key} {keys = keys} {values = values} o now vs xs t n same all is =
    is ∙ ap (λ y. best key keys values (map now y)) (take_all n xs all)
    ∙ best_of_same o (map now xs) vs (permuted vs (map now xs) same)
