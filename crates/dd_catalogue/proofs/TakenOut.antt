-- Keys that are taken out of a list that rises.
use Rattle.std.specs.Prelude.{◌≡◌, ◌<◌, ◌≤◌, ◌+◌, ℕ, Bool, true, false, not, List, [], ◌∷◌, ◌++◌, None}
use Rattle.std.specs.Prelude.{Result, Ok, Err, find, is_some, is_ok, is_err, length, get_or, take, drop}
use Rattle.std.specs.List.{AllWithin, list_any}
use Rattle.std.specs.Ordering.{is_eq, ordering_reverse}
use Rattle.std.specs.declared.cmp.Ordering.{Ordering}
use Rattle.std.specs.declared.cmp.Ordering.TheVariants.{Less, Equal, Greater}
use Rattle.std.proofs.Common.{refl, sym, ◌∙◌, ap, subst, arith, add-one, zero, suc}
use Rattle.std.proofs.lemmas.Cmp.{nat_list_cmp_total}
use Rattle.std.proofs.lemmas.Map.Lookups.{exact_bytes}
use Rattle.dd_elem.specs.Ordered.{bytes_cmp}
use Rattle.dd_catalogue.specs.Best.{IsAbove, IsRising, at}
use Rattle.dd_catalogue.specs.Free.{is_free, free}
use Rattle.dd_catalogue.specs.Rising.{by_test, above_trans, greater_turned, less_turned}
use Rattle.dd_catalogue.specs.Table.{IsIndex}
use Rattle.dd_catalogue.proofs.BestMembers.{above_member}
use Rattle.dd_catalogue.proofs.Members.{member_of}
use Rattle.dd_catalogue.proofs.Places.{at_here, at_between}
use Rattle.std.proofs.lemmas.List.Elements.{Contains-get_or}

-- ---- what a place says

pub placed : {V : Type 0} (key : V → List ℕ) (k : List ℕ) (m : List V) (r : Result ℕ ℕ) → IsRising key bytes_cmp m
    → IsIndex key k m r → is_ok r ≡ is_some (at key bytes_cmp m k)
placed key k [] (Ok i) up is = absurd (omega (arith, is.0))
placed key k (v ∷ m) (Ok i) up is = sym (ap is_some (at_here key k (v ∷ m) i v up is.0 (is.1 v)))
placed key k m (Err i) up is = sym (ap is_some (at_between key k m i is.1 is.2))

any_find : {V : Type 0} (test : V → Bool) (m : List V) → list_any test m ≡ is_some (find test m)
any_find test [] = refl
any_find test (v ∷ m) = by_test (test v) (λ e. rw e refl) (λ e. rw e (any_find test m))

-- a key is free of a list where it is not at a place of it
pub free_there : (w : List (List ℕ)) (k : List ℕ) → is_free bytes_cmp w k ≡ not (is_some (at (λ u. u) bytes_cmp w k))
free_there w k = ap not (any_find (λ u. is_eq (bytes_cmp u k)) w)

not_not : (b : Bool) → not (not b) ≡ b
not_not true = refl
not_not false = refl

-- a key is withdrawn where it is at a place of the list
pub withdrawn_there : (w : List (List ℕ)) (k : List ℕ)
    → not (is_free bytes_cmp w k) ≡ is_some (at (λ u. u) bytes_cmp w k)
withdrawn_there w k =
    not_not (list_any (λ u. is_eq (bytes_cmp u k)) w) ∙ any_find (λ u. is_eq (bytes_cmp u k)) w

pub free_placed : (w : List (List ℕ)) (k : List ℕ) (r : Result ℕ ℕ) → IsRising (λ u. u) bytes_cmp w
    → IsIndex (λ u. u) k w r → is_free bytes_cmp w k ≡ not (is_ok r)
free_placed w k r up is = free_there w k ∙ ap not (sym (placed (λ u. u) k w r up is))

pub free_err : (w : List (List ℕ)) (k j : List ℕ) (r : Result ℕ ℕ) → IsRising (λ u. u) bytes_cmp w
    → IsIndex (λ u. u) k w r → k ≡ j → is_err r ≡ is_free bytes_cmp w j
free_err w k j r up is e = not_ok r ∙ sym (free_placed w k r up is) ∙ ap (λ x. is_free bytes_cmp w x) e
  where
    not_ok : (r : Result ℕ ℕ) → is_err r ≡ not (is_ok r)
    not_ok (Ok i) = refl
    not_ok (Err i) = refl

pub free_of_none : {V : Type 0} (key : V → List ℕ) (w : List (List ℕ)) (m : List V) → length w ≡ 0
    → free key bytes_cmp w m ≡ m
free_of_none key [] [] e = refl
free_of_none key [] (v ∷ m) e = ap (λ x. v ∷ x) (free_of_none key [] m e)
free_of_none key (u ∷ w) m e = absurd (omega arith)

-- ---- one value is taken out

same_turned : (j k : List ℕ) → is_eq (bytes_cmp j k) ≡ is_eq (bytes_cmp k j)
same_turned j k = ap is_eq (nat_list_cmp_total.antisymm j k) ∙ turned (bytes_cmp k j)
  where
    turned : (r : Ordering) → is_eq (ordering_reverse r) ≡ is_eq r
    turned Less = refl
    turned Equal = refl
    turned Greater = refl

pub free_of_absent : {V : Type 0} (key : V → List ℕ) (k : List ℕ) (m : List V) → at key bytes_cmp m k ≡ None
    → free key bytes_cmp (k ∷ []) m ≡ m
free_of_absent key k [] e = refl
free_of_absent key k (w ∷ m) e = by_test (is_eq (bytes_cmp (key w) k))
    (λ f. let no = rw f at e in cc)
    (λ f. let g : is_eq (bytes_cmp k (key w)) ≡ false = same_turned k (key w) ∙ f in
    let rest : at key bytes_cmp m k ≡ None = rw f at e in
    rw g (ap (λ x. w ∷ x) (free_of_absent key k m rest)))

free_of_above : {V : Type 0} (key : V → List ℕ) (k : List ℕ) (m : List V) → IsAbove key bytes_cmp k m
    → free key bytes_cmp (k ∷ []) m ≡ m
free_of_above key k [] h = refl
free_of_above key k (w ∷ m) h = rw h.0 (ap (λ x. w ∷ x) (free_of_above key k m h.1))

pub free_at : {V : Type 0} (key : V → List ℕ) (k : List ℕ) (m : List V) (i : ℕ) (d : V) → IsRising key bytes_cmp m
    → i < length m → bytes_cmp (key (get_or m i d)) k ≡ Equal
    → free key bytes_cmp (k ∷ []) m ≡ take i m ++ drop (i + 1) m
free_at key k [] i d up below tie = absurd (omega arith)
free_at key k (w ∷ m) zero d up below tie =
    let same : key w ≡ k = exact_bytes (key w) k tie in
    let here : is_eq (bytes_cmp k (key w)) ≡ true = same_turned k (key w) ∙ ap is_eq tie in
    rw here (free_of_above key k m (subst (λ j. IsAbove key bytes_cmp j m) same up.0))
free_at key k (w ∷ m) (suc i) d up below tie =
    let x = get_or m i d in
    let above : bytes_cmp (key w) (key x) ≡ Less = above_member key bytes_cmp (key w) x m up.0
    (member_of x m (Contains-get_or m i d (omega arith))) in
    let above' : bytes_cmp (key w) k ≡ Less =
    subst (λ j. bytes_cmp (key w) j ≡ Less) (exact_bytes (key x) k tie) above in
    rw (less_turned nat_list_cmp_total (key w) k above', add-one (suc i))
    (ap (λ y. w ∷ y) (free_at key k m i d up.1 (omega arith) tie ∙ rw (add-one i) refl))

-- ---- a search from a place on

pub all_greater : (k x : List ℕ) (m : List (List ℕ)) (i : ℕ) → IsRising (λ u. u) bytes_cmp m → i < length m
    → x ≡ get_or m i x → bytes_cmp x k ≡ Greater → AllWithin (λ w. bytes_cmp w k ≡ Greater) m i (length m)
all_greater k x [] i up below read e = absurd (omega arith)
all_greater k x (v ∷ m) zero up below read e = λ j d low high. first j d high
  where
    first : (j : ℕ) (d : List ℕ) → j < length (v ∷ m) → bytes_cmp (get_or (v ∷ m) j d) k ≡ Greater
    first zero d high = ap (λ y. bytes_cmp y k) (sym read) ∙ e
    first (suc j) d high =
        let y = get_or m j d in
        let above : bytes_cmp v y ≡ Less = above_member (λ u. u) bytes_cmp v y m up.0
        (member_of y m (Contains-get_or m j d (omega arith))) in
        let lower : bytes_cmp k v ≡ Less =
        greater_turned nat_list_cmp_total v k (ap (λ z. bytes_cmp z k) (sym read) ∙ e) in
        less_turned nat_list_cmp_total k y (nat_list_cmp_total.trans k v y lower above)
all_greater k x (v ∷ m) (suc i) up below read e = later (all_greater k x m i up.1 (omega arith) read e)
  where
    later : AllWithin (λ w. bytes_cmp w k ≡ Greater) m i (length m) → (j : ℕ) (d : List ℕ) → suc i ≤ j
        → j < length (v ∷ m) → bytes_cmp (get_or (v ∷ m) j d) k ≡ Greater
    later h zero d low high = absurd (omega arith)
    later h (suc j) d low high = h j d (omega arith) (omega arith)

-- ---- one walk along both

pub rising-drop : {V : Type 0} (key : V → List ℕ) (m : List V) (i : ℕ) → IsRising key bytes_cmp m
    → IsRising key bytes_cmp (drop i m)
rising-drop key m zero up = up
rising-drop key [] (suc i) up = tt
rising-drop key (v ∷ m) (suc i) up = rising-drop key m i up.1

pub from_here : {V : Type 0} (m : List V) (i : ℕ) (x : V) → i < length m → x ≡ get_or m i x
    → drop i m ≡ x ∷ drop (i + 1) m
from_here [] i x below read = absurd (omega arith)
from_here (v ∷ m) zero x below read = ap (λ y. y ∷ m) (sym read)
from_here (v ∷ m) (suc i) x below read = from_here m i x (omega arith) read ∙ rw (add-one i, add-one (suc i)) refl

-- the keys before this place are below all values that are left
abbrev pub AreBelow : {V : Type 0} → (V → List ℕ) → List (List ℕ) → ℕ → List V → Type 0
AreBelow key w n m = AllWithin (λ uid. IsAbove key bytes_cmp uid m) w 0 n

pub below_this : {V : Type 0} (key : V → List ℕ) (w : List (List ℕ)) (n : ℕ) (m : List V) (i : ℕ) (x : V)
    → i < length m → x ≡ get_or m i x → AreBelow key w n (drop i m)
    → AllWithin (λ uid. bytes_cmp uid (key x) ≡ Less) w 0 n
below_this key w n m i x below read h j d low high =
    (subst (λ s. IsAbove key bytes_cmp (get_or w j d) s) (from_here m i x below read) (h j d low high)).0

pub below_rest : {V : Type 0} (key : V → List ℕ) (w : List (List ℕ)) (n : ℕ) (m : List V) (i : ℕ) (x : V)
    → IsRising key bytes_cmp m → i < length m → x ≡ get_or m i x
    → AllWithin (λ uid. bytes_cmp uid (key x) ≡ Less) w 0 n
    → AreBelow key w n (drop (i + 1) m)
below_rest key w n m i x up below read h j d low high =
    let here = subst (λ s. IsRising key bytes_cmp s) (from_here m i x below read) (rising-drop key m i up) in
    above_trans key nat_list_cmp_total (get_or w j d) (key x) (drop (i + 1) m) (h j d low high) here.0
