-- The pending set of a start, among starts that rise, and what is pending once it is taken out.
use Rattle.std.proofs.Common.{◌≡◌, ℕ, zero, suc, ◌+◌, ◌<◌, ◌≤◌, ◌==◌, Bool, true, false, List, [], ◌∷◌, length, get_or}
use Rattle.std.proofs.Common.{Option, None, Some, Ok, Err, if◌then◌else◌, option_map, refl, sym, ap, subst, ◌∙◌}
use Rattle.std.proofs.Common.{arith, inl, inr}
use Rattle.std.proofs.Math.ListN.{set}
use Rattle.std.proofs.lemmas.Bool.{eqb-true, cases_lt}
use Rattle.std.proofs.lemmas.List.{get_or-map}
use Rattle.std.proofs.lemmas.List.Sorted.{searched}
use Rattle.std.specs.Ordering.{nat_cmp}
use Rattle.std.specs.List.Sorted.{IsBinarySearchResult}
use Rattle.dd_part10.proofs.Tags.{neq_eqb}
use Rattle.dd_set.specs.declared.set.DataSet.{DataSet}
use Rattle.dd_encoding.specs.Elements.{Elements}
use Rattle.dd_set.specs.Views.{set_view}
use Rattle.dd_walk.specs.declared.fault.DirFault.TheVariants.{Dangling, Twice}
use Rattle.dd_walk.specs.ReadAnswers.{Leaves}
use Rattle.dd_walk.specs.Reading.{stands_in}
use Rattle.dd_walk.specs.Pending.{Rises, AreLeft, reached, count_left, pending_view}
use Rattle.dd_walk.specs.Walks.{with, found_at}

-- ---- numbers that rise

pub rises_at : (low : ℕ) (xs : List ℕ) (j : ℕ) → Rises low xs → j < length xs → low ≤ get_or xs j 0
rises_at low [] j rise within = absurd (omega arith)
rises_at low (x ∷ xs) zero rise within = rise.0
rises_at low (x ∷ xs) (suc j) rise within = omega (arith, rise.0, rises_at (x + 1) xs j rise.1 (omega arith))

pub rises_sorted : (low : ℕ) (xs : List ℕ) → Rises low xs → (i j : ℕ) → i ≤ j → j < length xs
    → get_or xs i 0 ≤ get_or xs j 0
rises_sorted low [] rise i j order within = absurd (omega arith)
rises_sorted low (x ∷ xs) rise zero zero order within = omega arith
rises_sorted low (x ∷ xs) rise zero (suc j) order within = omega (arith, rises_at (x + 1) xs j rise.1 (omega arith))
rises_sorted low (x ∷ xs) rise (suc i) zero order within = absurd (omega arith)
rises_sorted low (x ∷ xs) rise (suc i) (suc j) order within =
    rises_sorted (x + 1) xs rise.1 i j (omega arith) (omega arith)

-- ---- what stands at a place

-- nothing where no start is there
pub stands_none : (starts : List ℕ) (sets : List Elements) (p : ℕ)
    → ((k : ℕ) → k < length starts → get_or starts k 0 ≡ p → ⊥) → stands_in starts sets p ≡ None
stands_none [] sets p none = refl
stands_none (start ∷ starts) [] p none = refl
stands_none (start ∷ starts) (x ∷ sets) p none =
    let other : (p == start) ≡ false = neq_eqb p start (λ e. none 0 (omega arith) (sym e)) in
    rw other (stands_none starts sets p (λ k within. none (suc k) (omega arith)))

-- what stands at a start, and whether it was reached
abbrev pub AtStart : Option Elements → Bool → Option Elements → Type 0
AtStart found seen None = (x : Elements) × (found ≡ Some x) × (seen ≡ true)
AtStart found seen (Some held) = (found ≡ Some held) × (seen ≡ false)

pub same_start : (p : ℕ) → (p == p) ≡ true
same_start p = search (arith)

other_start : (low : ℕ) (starts : List ℕ) (i start : ℕ) → Rises (start + 1) starts → i < length starts
    → (get_or starts i 0 == start) ≡ false
other_start low starts i start rise within =
    neq_eqb (get_or starts i 0) start (λ e. absurd (omega (arith, rises_at (start + 1) starts i rise within)))

pub at_start : (low : ℕ) (starts : List ℕ) (sets : List Elements) (pending : List (Option Elements)) (i : ℕ)
    → Rises low starts → AreLeft sets pending → length starts ≡ length pending → i < length starts
    → AtStart (stands_in starts sets (get_or starts i 0)) (reached starts pending (get_or starts i 0))
    (get_or pending i None)
at_start low [] sets pending i rise left each within = absurd (omega arith)
at_start low (start ∷ starts) sets [] i rise left each within = absurd (omega arith)
at_start low (start ∷ starts) [] (item ∷ pending) i rise left each within = absurd left
at_start low (start ∷ starts) (x ∷ sets) (None ∷ pending) zero rise left each within =
    rw (same_start start) (x, refl, refl)
at_start low (start ∷ starts) (x ∷ sets) (Some held ∷ pending) zero rise left each within =
    rw (same_start start) (ap (λ y. Some y) (sym left.0), refl)
at_start low (start ∷ starts) (x ∷ sets) (None ∷ pending) (suc i) rise left each within =
    rw (other_start low starts i start rise.1 (omega arith))
    (at_start (start + 1) starts sets pending i rise.1 left (omega arith) (omega arith))
at_start low (start ∷ starts) (x ∷ sets) (Some held ∷ pending) (suc i) rise left each within =
    rw (other_start low starts i start rise.1 (omega arith))
    (at_start (start + 1) starts sets pending i rise.1 left.1 (omega arith) (omega arith))

-- ---- a set is taken out

pub left_without : (sets : List Elements) (pending : List (Option Elements)) (i : ℕ) → AreLeft sets pending
    → AreLeft sets (set pending i None)
left_without [] [] i left = left
left_without [] (item ∷ pending) i left = absurd left
left_without (x ∷ sets) [] i left = absurd left
left_without (x ∷ sets) (None ∷ pending) zero left = left
left_without (x ∷ sets) (Some held ∷ pending) zero left = left.1
left_without (x ∷ sets) (None ∷ pending) (suc i) left = left_without sets pending i left
left_without (x ∷ sets) (Some held ∷ pending) (suc i) left = (left.0, left_without sets pending i left.1)

first_here : (a : Bool) (t r : Bool) → (if a then true else r) ≡ (if a then true else (if a then t else r))
first_here true t r = refl
first_here false t r = refl

swap_true : (a b r : Bool)
    → (if a then true else (if b then true else r)) ≡ (if b then true else (if a then true else r))
swap_true true true r = refl
swap_true true false r = refl
swap_true false b r = refl

swap_false : (a b r : Bool) → (a ≡ true → b ≡ false)
    → (if a then false else (if b then true else r)) ≡ (if b then true else (if a then false else r))
swap_false true b r apart = rw (apart refl) refl
swap_false false b r apart = refl

pub reached_without : (low : ℕ) (starts : List ℕ) (pending : List (Option Elements)) (i : ℕ) → Rises low starts
    → length starts ≡ length pending → i < length starts → (q : ℕ)
    → reached starts (set pending i None) q ≡ with (get_or starts i 0) (reached starts pending) q
reached_without low [] pending i rise each within q = absurd (omega arith)
reached_without low (start ∷ starts) [] i rise each within q = absurd (omega arith)
reached_without low (start ∷ starts) (None ∷ pending) zero rise each within q =
    first_here (q == start) true (reached starts pending q)
reached_without low (start ∷ starts) (Some held ∷ pending) zero rise each within q =
    first_here (q == start) false (reached starts pending q)
reached_without low (start ∷ starts) (None ∷ pending) (suc i) rise each within q =
    ap (λ r. if q == start then true else r)
    (reached_without (start + 1) starts pending i rise.1 (omega arith) (omega arith) q)
    ∙ swap_true (q == start) (q == get_or starts i 0) (reached starts pending q)
reached_without low (start ∷ starts) (Some held ∷ pending) (suc i) rise each within q =
    ap (λ r. if q == start then false else r)
    (reached_without (start + 1) starts pending i rise.1 (omega arith) (omega arith) q)
    ∙ swap_false (q == start) (q == get_or starts i 0) (reached starts pending q)
    (λ e. neq_eqb q (get_or starts i 0)
    (λ same. absurd (omega (arith, eqb-true q start e, rises_at (start + 1) starts i rise.1 (omega arith)))))

pub count_without : (pending : List (Option Elements)) (i : ℕ) (held : Elements) → get_or pending i None ≡ Some held
    → count_left pending ≡ 1 + count_left (set pending i None)
count_without [] i held is = absurd (cc)
count_without (None ∷ pending) zero held is = absurd (cc)
count_without (Some other ∷ pending) zero held is = refl
count_without (None ∷ pending) (suc i) held is = count_without pending i held is
count_without (Some other ∷ pending) (suc i) held is = ap (λ n. 1 + n) (count_without pending i held is)

pub leaves : (low : ℕ) (starts : List ℕ) (sets : List Elements) (pending : List (Option Elements)) (i : ℕ)
    → Rises low starts → AreLeft sets pending → length starts ≡ length pending → i < length starts
    → Leaves starts sets (get_or starts i 0) pending (set pending i None)
leaves low starts sets pending i rise left each within = record {
  left = left_without sets pending i left;
  adds = λ j q. reached_without low starts pending i rise each within q j;
}

-- ---- what a search for a place finds

not_found : (starts : List ℕ) (p i : ℕ) → ((k : ℕ) → k < i → get_or starts k 0 < p)
    → ((k : ℕ) → i ≤ k → k < length starts → p < get_or starts k 0)
    → (k : ℕ) → k < length starts → get_or starts k 0 ≡ p → ⊥
not_found starts p i below above k within is =
    elim (cases_lt k i) [ inl less ↦ omega (arith, below k less) | inr more ↦ omega (arith, above k more within) ]

-- no start is at the place
pub dangling : (low : ℕ) (starts : List ℕ) (sets : List Elements) (seen : Bool) (x p i level : ℕ) → Rises low starts
    → x ≡ p → IsBinarySearchResult (λ y. nat_cmp y x) starts (Err i)
    → found_at p level seen (stands_in starts sets p) ≡ Err (Dangling p)
dangling low starts sets seen x p i level rise is position =
    let found = searched starts x (Err i) position (rises_sorted low starts rise) in
    let none : stands_in starts sets p ≡ None =
    stands_none starts sets p (λ k within e. not_found starts x i found.1 found.2 k within (e ∙ sym is)) in
    rw none refl

-- what stands at a start that was found
pub at_found : (low : ℕ) (starts : List ℕ) (sets : List Elements) (pending : List (Option Elements)) (x p i : ℕ)
    → Rises low starts → AreLeft sets pending → length starts ≡ length pending
    → x ≡ p → IsBinarySearchResult (λ y. nat_cmp y x) starts (Ok i)
    → AtStart (stands_in starts sets p) (reached starts pending p) (get_or pending i None)
    × Leaves starts sets p pending (set pending i None)
at_found low starts sets pending x p i rise left each is position =
    let found = searched starts x (Ok i) position (rises_sorted low starts rise) in
    let here : get_or starts i 0 ≡ p = found.1 ∙ is in (
      subst (λ q. AtStart (stands_in starts sets q) (reached starts pending q) (get_or pending i None)) here
          (at_start low starts sets pending i rise left each found.0),
      subst (λ q. Leaves starts sets q pending (set pending i None)) here
          (leaves low starts sets pending i rise left each found.0),
    )

pub twice : (p level : ℕ) (seen : Bool) (found : Option Elements) → AtStart found seen None
    → found_at p level seen found ≡ Err (Twice p)
twice p level seen found at = rw (at.1, at.2) refl

-- the view of the pending sets has at each place the view of the set there
pub pending_is : (pending : List (Option DataSet)) (i : ℕ) (d : Option DataSet) → i < length pending
    → get_or (pending_view pending) i None ≡ option_map set_view (get_or pending i d)
pending_is pending i d within = get_or-map (λ (s : Option DataSet). option_map set_view s) pending i d None within
