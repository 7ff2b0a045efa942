-- Of a list that rises by key, and in which values with one key fall, the first ones with each key are its best.
use Rattle.std.specs.Prelude.{◌≡◌, Bool, true, false, ℕ, List, [], ◌∷◌}
use Rattle.std.specs.Cmp.{IsStrictWeakOrder}
use Rattle.std.specs.List.{dedup, dedup_from}
use Rattle.std.specs.List.Sorted.{IsPermutation, IsSorted, IsSortedBy}
use Rattle.std.specs.Ordering.{is_eq, is_lt}
use Rattle.std.specs.declared.cmp.Ordering.{Ordering}
use Rattle.std.specs.declared.cmp.Ordering.TheVariants.{Less, Equal, Greater}
use Rattle.std.proofs.Common.{refl, sym, ◌∙◌, ap, arith, add-one, zero, suc}
use Rattle.std.proofs.lemmas.Cmp.{nat_list_cmp_total, tied_back}
use Rattle.std.proofs.lemmas.List.Sorted.{Contains-permutation, IsPermutation-sym, ranks_by, sorted_far}
use Rattle.std.proofs.lemmas.Map.Lookups.{exact_bytes}
use Rattle.dd_elem.specs.Ordered.{bytes_cmp}
use Rattle.dd_catalogue.specs.Best.{best, greater, put}
use Rattle.dd_catalogue.specs.BestLaws.{best_at, same_best_at}
use Rattle.dd_catalogue.specs.Ranks.{rank_cmp, rank_total}
use Rattle.dd_catalogue.specs.Rising.{Orders, by_order, by_test, either, either_assoc, greater_turned, less_turned, one}
use Rattle.dd_catalogue.specs.Rising.{one-greater}
use Rattle.dd_catalogue.proofs.BestMembers.{best_of_same}

greater_first : {V : Type 0} (values : V → V → Ordering) (v w : V) → is_lt (values v w) ≡ false
    → greater values v w ≡ v
greater_first values v w not = rw not refl

-- a value is left out where one with its key, which is not less, stands before it
best_falls : {V : Type 0} {key : V → List ℕ} {values : V → V → Ordering} (o : Orders key bytes_cmp values) (v w : V)
    (s : List V) → key v ≡ key w → is_lt (values v w) ≡ false
    → best key bytes_cmp values (v ∷ w ∷ s) ≡ best key bytes_cmp values (v ∷ s)
best_falls {key = key} {values = values} o v w s same not = same_best_at o (v ∷ w ∷ s) (v ∷ s) (λ k.
    sym (either_assoc o.values_total o.values_apart (one key bytes_cmp k v) (one key bytes_cmp k w)
    (best_at key bytes_cmp values s k))
    ∙ ap (λ x. either values x (best_at key bytes_cmp values s k))
    (sym (one-greater key bytes_cmp values k v w same)
    ∙ ap (λ x. one key bytes_cmp k x) (greater_first values v w not)))

-- ---- the rest of a sorted list

sorted_rest : {V : Type 0} (lt : V → V → Bool) (v : V) (s : List V) → IsSortedBy lt (v ∷ s) → IsSortedBy lt s
sorted_rest lt v s up k d low high =
    let there = up (suc k) d (omega arith) (omega arith) in rw (add-one k) (rw (add-one (suc k)) at there)

sorted_without : {V : Type 0} (lt : V → V → Bool) → IsStrictWeakOrder lt → (v w : V) (s : List V)
    → IsSortedBy lt (v ∷ w ∷ s) → IsSortedBy lt (v ∷ s)
sorted_without lt o v w s up zero d low high =
    sorted_far lt o (v ∷ w ∷ s) up 0 2 d (omega arith) (omega arith)
sorted_without lt o v w s up (suc k) d low high =
    let there = up (suc (suc k)) d (omega arith) (omega arith) in
    rw (add-one (suc k)) (rw (add-one (suc (suc k))) at there)

-- ---- the first ones

module _ {V : Type 0} {key : V → List ℕ} {values : V → V → Ordering} (o : Orders key bytes_cmp values) where
  abbrev same : V → V → Bool
  same v w = is_eq (bytes_cmp (key v) (key w))

  abbrev lt : V → V → Bool
  lt v w = is_lt (rank_cmp key values v w)

  ranks : IsStrictWeakOrder lt
  ranks = ranks_by (rank_total key o.values_total) (λ v. v)

  -- the first value stays
  head : (v : V) (s : List V) → (t : List V) × (dedup_from same v s ≡ v ∷ t)
  head v [] = ([], refl)
  head v (w ∷ s) = by_test (same w v)
      (λ e. let t = head v s in (t.0, rw e t.1))
      (λ e. (dedup_from same w s, rw e refl))

  put_first : (v w : V) (s : List V) → bytes_cmp (key v) (key w) ≡ Less
      → put key bytes_cmp values v (dedup_from same w s) ≡ v ∷ dedup_from same w s
  put_first v w s e =
      let t = head w s in
      ap (λ m. put key bytes_cmp values v m) t.1 ∙ less v w t.0 e ∙ ap (λ m. v ∷ m) (sym t.1)
    where
      less : (v w : V) (t : List V) → bytes_cmp (key v) (key w) ≡ Less
          → put key bytes_cmp values v (w ∷ t) ≡ v ∷ w ∷ t
      less v w t e = rw e refl

  firsts : (v : V) (s : List V) → IsSortedBy lt (v ∷ s) → best key bytes_cmp values (v ∷ s) ≡ dedup_from same v s
  firsts v [] up = refl
  firsts v (w ∷ s) up =
      let next : is_lt (rank_cmp key values w v) ≡ false = up 0 v (omega arith) (omega arith) in
      by_order (bytes_cmp (key v) (key w))
      (λ e. let other : same w v ≡ false = ap is_eq (less_turned nat_list_cmp_total (key v) (key w) e) in
      rw other (ap (λ m. put key bytes_cmp values v m) (firsts w s (sorted_rest lt v (w ∷ s) up)) ∙ put_first v w s e))
      (λ e. let back : bytes_cmp (key w) (key v) ≡ Equal = tied_back nat_list_cmp_total (key v) (key w) e in
      let alike : same w v ≡ true = ap is_eq back in
      let not : is_lt (values v w) ≡ false = rw back at next in
      rw alike (best_falls o v w s (exact_bytes (key v) (key w) e) not
      ∙ firsts v s (sorted_without lt ranks v w s up)))
      (λ e. let before : bytes_cmp (key w) (key v) ≡ Less = greater_turned nat_list_cmp_total (key v) (key w) e in
      let no : true ≡ false = rw before at next in cc)

  pub firsts_are_best : (s t m : List V) → IsPermutation s t → IsSortedBy lt t → m ≡ dedup same t
      → m ≡ best key bytes_cmp values s
  firsts_are_best s t m moved up is =
      is ∙ whole t up ∙ best_of_same o t s (λ v. (
        (λ c. Contains-permutation t s v (IsPermutation-sym s t moved) c),
        (λ c. Contains-permutation s t v moved c),
      ))
    where
      whole : (t : List V) → IsSortedBy lt t → dedup same t ≡ best key bytes_cmp values t
      whole [] up = refl
      whole (v ∷ t) up = sym (firsts v t up)
