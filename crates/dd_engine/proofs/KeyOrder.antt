-- Elements in the order of their keys: how keys compare, and where a search for a key ends. A stable sort keeps the
-- elements of a key in their order.
use Rattle.std.specs.Prelude.{◌≡◌, ◌⊎◌, ◌&&◌, ◌<◌, ◌≤◌, ℕ, Bool, true, false, not, List, [], ◌∷◌, length, filter}
use Rattle.std.specs.Prelude.{get_or}
use Rattle.std.specs.Cmp.{IsTotalOrder}
use Rattle.std.specs.List.Sorted.{IsPartitionedBy, IsSorted, IsStable, ties}
use Rattle.std.specs.Ordering.{is_eq, is_lt, ordering_reverse}
use Rattle.std.specs.declared.cmp.Ordering.{Ordering}
use Rattle.std.specs.declared.cmp.Ordering.TheVariants.{Less, Equal, Greater}
use Rattle.std.proofs.Common.{refl, sym, ◌∙◌, ap, inl, inr}
use Rattle.std.proofs.lemmas.Cmp.{alike_right}
use Rattle.std.proofs.lemmas.List.Elements.{filter_agree}
use Rattle.std.proofs.lemmas.List.MinMax.{ranks_by}
use Rattle.std.proofs.lemmas.List.Sorted.{sorted_far}
use Rattle.dd_catalogue.specs.Rising.{by_order, by_test, is_eq_Equal}

-- ---- orderings

pub not_before : (r : Ordering) → is_lt r ≡ true → is_eq r ≡ false
not_before Less e = refl
not_before Equal e = cc
not_before Greater e = refl

is_less : (r : Ordering) → is_lt r ≡ true → r ≡ Less
is_less Less e = refl
is_less Equal e = cc
is_less Greater e = cc

neither : (r : Ordering) → is_lt r ≡ false → is_lt (ordering_reverse r) ≡ false → is_eq r ≡ true
neither Less e f = cc
neither Equal e f = refl
neither Greater e f = cc

ties_are : (r : Ordering) → (not (is_lt (ordering_reverse r)) && not (is_lt r)) ≡ is_eq r
ties_are Less = refl
ties_are Equal = refl
ties_are Greater = refl

-- ---- keys

module _ {K : Type 0} {cmp : K → K → Ordering} (total : IsTotalOrder cmp) where
  -- a key that is neither before another nor after an equal one is that other
  pub between : (v w t : K) → is_lt (cmp v t) ≡ false → is_lt (cmp w v) ≡ false → is_eq (cmp w t) ≡ true
      → is_eq (cmp v t) ≡ true
  between v w t below above one =
      let turned : is_lt (ordering_reverse (cmp v t)) ≡ false =
      ap is_lt (sym (total.antisymm t v) ∙ sym (total.congr w t v (is_eq_Equal (cmp w t) one))) ∙ above in
      neither (cmp v t) below turned

  before_too : (v w t : K) → is_lt (cmp w v) ≡ false → is_lt (cmp w t) ≡ true → is_lt (cmp v t) ≡ true
  before_too v w t after less = by_order (cmp w v)
      (λ e. cc (ap is_lt e, after))
      (λ e. ap is_lt (sym (total.congr w v t e)) ∙ less)
      (λ e. let first : cmp v w ≡ Less = total.antisymm v w ∙ ap ordering_reverse e in
      ap is_lt (total.trans v w t first (is_less (cmp w t) less)))

  tied : (x y : K) → (not (is_lt (cmp x y)) && not (is_lt (cmp y x))) ≡ is_eq (cmp y x)
  tied x y = ap (λ r. not (is_lt r) && not (is_lt (cmp y x))) (total.antisymm x y) ∙ ties_are (cmp y x)

-- ---- elements

some_or_none : {A : Type 0} (test : A → Bool) (xs : List A) → ((x : A) × (test x ≡ true)) ⊎ (filter test xs ≡ [])
some_or_none test [] = inr refl
some_or_none test (x ∷ xs) = by_test (test x)
    (λ e. inl (x, e))
    (λ e. rw e (some_or_none test xs))

module _ {A K : Type 0} {cmp : K → K → Ordering} (key : A → K) (total : IsTotalOrder cmp) where
  pub sorted_at : (xs : List A) → IsSorted (λ a b. cmp (key a) (key b)) xs → (i j : ℕ) (d : A) → i ≤ j
      → j < length xs → is_lt (cmp (key (get_or xs j d)) (key (get_or xs i d))) ≡ false
  sorted_at xs order = sorted_far (λ a b. is_lt (cmp (key a) (key b))) (ranks_by total key) xs order

  pub parted : (xs : List A) (t : K) → IsSorted (λ a b. cmp (key a) (key b)) xs
      → IsPartitionedBy (λ x. is_lt (cmp (key x) t)) xs
  parted xs t order i j d up below less =
      before_too total (key (get_or xs i d)) (key (get_or xs j d)) t (sorted_at xs order i j d up below) less

  ties_of : (t : K) (x : A) (xs : List A) → is_eq (cmp (key x) t) ≡ true
      → filter (ties (λ a b. is_lt (cmp (key a) (key b))) x) xs ≡ filter (λ y. is_eq (cmp (key y) t)) xs
  ties_of t x xs e =
      filter_agree (ties (λ a b. is_lt (cmp (key a) (key b))) x) (λ y. is_eq (cmp (key y) t)) (λ y.
      tied total (key x) (key y)
      ∙ ap is_eq (alike_right total (key x) t (key y) (is_eq_Equal (cmp (key x) t) e))) xs

  -- a stable sort keeps the elements with a key
  pub elements_stay : (xs ys : List A) → IsStable (λ a b. cmp (key a) (key b)) xs ys → (t : K)
      → filter (λ x. is_eq (cmp (key x) t)) ys ≡ filter (λ x. is_eq (cmp (key x) t)) xs
  elements_stay xs ys stable t =
      by (some_or_none (λ x. is_eq (cmp (key x) t)) xs) (some_or_none (λ x. is_eq (cmp (key x) t)) ys)
    where
      by_one : (x : A) × (is_eq (cmp (key x) t) ≡ true)
          → filter (λ y. is_eq (cmp (key y) t)) ys ≡ filter (λ y. is_eq (cmp (key y) t)) xs
      by_one (x, e) = sym (ties_of t x ys e) ∙ stable x ∙ ties_of t x xs e

      by : ((x : A) × (is_eq (cmp (key x) t) ≡ true)) ⊎ (filter (λ y. is_eq (cmp (key y) t)) xs ≡ [])
          → ((x : A) × (is_eq (cmp (key x) t) ≡ true)) ⊎ (filter (λ y. is_eq (cmp (key y) t)) ys ≡ [])
          → filter (λ y. is_eq (cmp (key y) t)) ys ≡ filter (λ y. is_eq (cmp (key y) t)) xs
      by (inl one) other = by_one one
      by (inr none) (inl one) = by_one one
      by (inr none) (inr other) = other ∙ sym none
