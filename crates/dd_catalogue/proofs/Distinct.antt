-- A list that was sorted, and then freed of repeats, is the set of its members.
use Rattle.std.specs.Prelude.{◌≡◌, Bool, true, List, [], ◌∷◌}
use Rattle.std.specs.Cmp.{IsEquivalence}
use Rattle.std.specs.List.{dedup}
use Rattle.std.specs.List.Retain.{DiffersFromLast, IsFiltered}
use Rattle.std.specs.List.Sorted.{IsPermutation, IsSorted, IsStrictlySortedBy}
use Rattle.std.specs.Ordering.{is_eq, ordering_reverse}
use Rattle.std.specs.declared.cmp.Ordering.{Ordering}
use Rattle.std.specs.declared.cmp.Ordering.TheVariants.{Less, Equal, Greater}
use Rattle.std.proofs.Common.{refl, sym, ◌∙◌, ap}
use Rattle.std.proofs.lemmas.Cmp.{tied_itself}
use Rattle.std.proofs.lemmas.List.Filters.{dedup_is}
use Rattle.std.proofs.lemmas.List.Kept.{Contains-dedup, Contains-from_dedup, IsStrictlySortedBy-dedup}
use Rattle.std.proofs.lemmas.List.Sorted.{Contains-permutation, IsPermutation-sym}
use Rattle.dd_catalogue.specs.Best.{IsRising}
use Rattle.dd_catalogue.specs.BestLaws.{best_of_rising}
use Rattle.dd_catalogue.specs.Free.{set_of}
use Rattle.dd_catalogue.specs.Rising.{Orders, is_eq_Equal}
use Rattle.dd_catalogue.proofs.BestMembers.{best_of_same}

rising_sorted : {K : Type 0} (keys : K → K → Ordering) (m : List K)
    → IsStrictlySortedBy keys m → IsRising (λ k. k) keys m
unfolding IsStrictlySortedBy
rising_sorted keys [] h = tt
rising_sorted keys (k ∷ m) h = (h.0, rising_sorted keys m h.1)

tie_turned : (r : Ordering) → is_eq (ordering_reverse r) ≡ is_eq r
tie_turned Less = refl
tie_turned Equal = refl
tie_turned Greater = refl

module _ {K : Type 0} {keys : K → K → Ordering} (o : Orders (λ k. k) keys keys) {same : K → K → Bool}
    (ties : (j k : K) → same j k ≡ is_eq (keys j k)) where
  same_is : (j k : K) → same j k ≡ true → j ≡ k
  same_is j k e = o.keys_apart j k (is_eq_Equal (keys j k) (sym (ties j k) ∙ e))

  same_equiv : IsEquivalence same
  same_equiv = record {
    refl = λ k. ties k k ∙ ap is_eq (tied_itself o.keys_total k);
    symm = λ j k. ties j k ∙ ap is_eq (o.keys_total.antisymm j k) ∙ tie_turned (keys k j) ∙ sym (ties k j);
    congr = λ i j k e. ap (λ x. same x k) (same_is i j e);
  }

  pub rising-dedup : (t m : List K) → IsSorted keys t → IsFiltered (DiffersFromLast same) [] t m
      → IsRising (λ k. k) keys m
  rising-dedup t m up left = rw (dedup_is same t m left)
      (rising_sorted keys (dedup same t) (IsStrictlySortedBy-dedup o.keys_total ties t up))

  -- t has the members of s, sorted, and m is what is left of t without repeats
  pub set_from_dedup : (s t m : List K) → IsPermutation s t → IsSorted keys t
      → IsFiltered (DiffersFromLast same) [] t m → m ≡ set_of keys s
  set_from_dedup s t m moved up left =
      let is = dedup_is same t m left in
      sym (best_of_same o s m (λ k. (
        (λ c. rw is (Contains-dedup same_equiv same_is t k (Contains-permutation s t k moved c))),
        (λ c. Contains-permutation t s k (IsPermutation-sym s t moved)
            (Contains-from_dedup same t k (rw is at c))),
      ))
      ∙ best_of_rising o m (rising-dedup t m up left))
