-- What a list that rises by key holds at a key, and what one value more makes of it, by the place of the key.
use Rattle.std.specs.Prelude.{◌≡◌, ◌<◌, ◌≤◌, ◌-◌, ℕ, List, [], ◌∷◌, Some, None, Result, Ok, Err, length, get_or, set}
use Rattle.std.specs.Prelude.{true, false}
use Rattle.std.specs.List.{AllWithin, AllByRecursion, HoldsAt, insert, slice_get}
use Rattle.std.specs.List.Sorted.{IsBinarySearchResult, IsSearchInRange, IsSortedBy}
use Rattle.std.specs.Ordering.{is_lt}
use Rattle.std.specs.Cmp.{IsTotalOrder}
use Rattle.std.specs.declared.cmp.Ordering.{Ordering}
use Rattle.std.specs.declared.cmp.Ordering.TheVariants.{Less, Equal, Greater}
use Rattle.std.proofs.Common.{refl, sym, ◌∙◌, ap, subst, arith, add-one, zero, suc}
use Rattle.std.proofs.lemmas.Cmp.{tied_back, nat_list_cmp_total}
use Rattle.std.proofs.lemmas.Map.Lookups.{exact_bytes}
use Rattle.std.proofs.lemmas.List.Sorted.{searchable_from_sorted}
use Rattle.std.proofs.lemmas.List.Elements.{Contains-get_or, All-from_recursion}
use Rattle.dd_elem.specs.Ordered.{bytes_cmp, TellsApart}
use Rattle.dd_catalogue.specs.Best.{IsRising, at, greater, put}
use Rattle.dd_catalogue.specs.Rising.{Orders, less_turned, greater_turned}
use Rattle.dd_catalogue.proofs.Members.{member_of, Member}
use Rattle.dd_catalogue.proofs.BestMembers.{at-member, above_member}
use Rattle.dd_catalogue.specs.Table.{IsIndex, taken_by}
use Rattle.dd_catalogue.specs.declared.best.Taken.TheVariants.{Displaced, Returned}
use Rattle.std.proofs.lemmas.List.{get_or_default, set-get_or}
use Rattle.std.proofs.lemmas.Option.{same_Some, slice_get_within, get_or_from_slice_get}

pub by_key : {V : Type 0} (key : V → List ℕ) {values : V → V → Ordering} → IsTotalOrder values → TellsApart values
    → Orders key bytes_cmp values
by_key key total apart =
    record { keys_total = nat_list_cmp_total; keys_apart = exact_bytes; values_total = total; values_apart = apart }

-- ---- a binary search finds the place

sorted_rising : {V : Type 0} (key : V → List ℕ) (m : List V) → IsRising key bytes_cmp m
    → IsSortedBy (λ a b. is_lt (bytes_cmp (key a) (key b))) m
sorted_rising key [] up k d low high = absurd (omega arith)
sorted_rising key (v ∷ []) up k d low high = absurd (omega arith)
sorted_rising key (v ∷ w ∷ m) up zero d low high = rw (less_turned nat_list_cmp_total (key v) (key w) up.0.0) refl
sorted_rising key (v ∷ w ∷ m) up (suc k) d low high =
    let rest = sorted_rising key (w ∷ m) up.1 k d (omega arith) (omega arith) in let next = rw (add-one k) at rest in
    rw (add-one (suc k)) next

pub searched : {V : Type 0} (key : V → List ℕ) (m : List V) → IsRising key bytes_cmp m → (k : List ℕ) (r : Result ℕ ℕ)
    → IsSearchInRange r (length m)
    → IsBinarySearchResult (λ w. bytes_cmp (key w) k) m r → IsIndex key k m r
searched key m up k (Ok i) bound is = (bound, is)
searched key m up k (Err i) bound is =
    let split = is (searchable_from_sorted nat_list_cmp_total key m k (sorted_rising key m up)) in
    (bound, split.0, split.1)

-- ---- between the smaller and the greater keys

pub at_between : {V : Type 0} (key : V → List ℕ) (k : List ℕ) (m : List V) (i : ℕ)
    → AllWithin (λ w. bytes_cmp (key w) k ≡ Less) m 0 i
    → AllWithin (λ w. bytes_cmp (key w) k ≡ Greater) m i (length m) → at key bytes_cmp m k ≡ None
at_between key k [] i low high = refl
at_between key k (w ∷ m) zero low high =
    let here : bytes_cmp (key w) k ≡ Greater = high 0 w (omega arith) (omega arith) in
    rw here (at_between key k m zero (λ j d a b. absurd (omega arith))
    (λ j d a b. high (suc j) d (omega arith) (omega arith)))
at_between key k (w ∷ m) (suc i) low high =
    let here : bytes_cmp (key w) k ≡ Less = low 0 w (omega arith) (omega arith) in
    rw here (at_between key k m i (λ j d a b. low (suc j) d (omega arith) (omega arith))
    (λ j d a b. high (suc j) d (omega arith) (omega arith)))

pub put_between : {V : Type 0} (key : V → List ℕ) (values : V → V → Ordering) (v : V) (m : List V) (i : ℕ)
    → i ≤ length m
    → AllWithin (λ w. bytes_cmp (key w) (key v) ≡ Less) m 0 i
    → AllWithin (λ w. bytes_cmp (key w) (key v) ≡ Greater) m i (length m)
    → put key bytes_cmp values v m ≡ insert m i v
put_between key values v [] zero le low high = refl
put_between key values v [] (suc i) le low high = absurd (omega arith)
put_between key values v (w ∷ m) zero le low high =
    let here : bytes_cmp (key w) (key v) ≡ Greater = high 0 w (omega arith) (omega arith) in
    rw (greater_turned nat_list_cmp_total (key w) (key v) here) refl
put_between key values v (w ∷ m) (suc i) le low high =
    let here : bytes_cmp (key w) (key v) ≡ Less = low 0 w (omega arith) (omega arith) in
    rw (less_turned nat_list_cmp_total (key w) (key v) here) (ap (λ x. w ∷ x)
    (put_between key values v m i (omega arith) (λ j d a b. low (suc j) d (omega arith) (omega arith))
    (λ j d a b. high (suc j) d (omega arith) (omega arith))))

-- ---- where a value with the key is

pub at_here : {V : Type 0} (key : V → List ℕ) (k : List ℕ) (m : List V) (i : ℕ) (d : V) → IsRising key bytes_cmp m
    → i < length m
    → bytes_cmp (key (get_or m i d)) k ≡ Equal → at key bytes_cmp m k ≡ Some (get_or m i d)
at_here key k m i d up below tie =
    let x = get_or m i d in
    ap (λ j. at key bytes_cmp m j) (sym (exact_bytes (key x) k tie))
    ∙ at-member key nat_list_cmp_total x m up (member_of x m (Contains-get_or m i d below))

pub put_here : {V : Type 0} (key : V → List ℕ) (values : V → V → Ordering) (v : V) (m : List V) (i : ℕ) (d : V)
    → IsRising key bytes_cmp m → i < length m
    → bytes_cmp (key (get_or m i d)) (key v) ≡ Equal
    → put key bytes_cmp values v m ≡ set m i (greater values (get_or m i d) v)
put_here key values v [] i d up below tie = absurd (omega arith)
put_here key values v (w ∷ m) zero d up below tie = rw (tied_back nat_list_cmp_total (key w) (key v) tie) refl
put_here key values v (w ∷ m) (suc i) d up below tie =
    let x = get_or m i d in
    let above : bytes_cmp (key w) (key x) ≡ Less = above_member key bytes_cmp (key w) x m up.0
    (member_of x m (Contains-get_or m i d (omega arith))) in
    let above' : bytes_cmp (key w) (key v) ≡ Less = subst (λ j. bytes_cmp (key w) j ≡ Less)
    (exact_bytes (key x) (key v) tie) above in
    rw (less_turned nat_list_cmp_total (key w) (key v) above')
    (ap (λ y. w ∷ y) (put_here key values v m i d up.1 (omega arith) tie))

-- ---- a value is challenged by one with its key: x is what stands at i

same_read : {V : Type 0} (m : List V) (i : ℕ) (x y : V) → i < length m → x ≡ get_or m i x → y ≡ get_or m i y → x ≡ y
same_read m i x y below read read' = read ∙ get_or_default m i x y below ∙ sym read'

pub at_read : {V : Type 0} (key : V → List ℕ) (k : List ℕ) (m : List V) (i : ℕ) (x : V) → IsRising key bytes_cmp m
    → i < length m
    → HoldsAt (λ w. bytes_cmp (key w) k ≡ Equal) m i → x ≡ get_or m i x → at key bytes_cmp m k ≡ Some x
at_read key k m i x up below tie read = at_here key k m i x up below (tie x) ∙ ap Some (sym read)

pub put_replaces : {V : Type 0} (key : V → List ℕ) (values : V → V → Ordering) (v : V) (m : List V) (i : ℕ) (x : V)
    → IsRising key bytes_cmp m → i < length m
    → HoldsAt (λ w. bytes_cmp (key w) (key v) ≡ Equal) m i → x ≡ get_or m i x → is_lt (values x v) ≡ true
    → set m i v ≡ put key bytes_cmp values v m
put_replaces key values v m i x up below tie read lt =
    sym (put_here key values v m i x up below (tie x) ∙ ap (λ y. set m i (greater values y v)) (sym read)
    ∙ ap (λ y. set m i y) (chosen values x v lt))
  where
    chosen : {V : Type 0} (values : V → V → Ordering) (x v : V) → is_lt (values x v) ≡ true → greater values x v ≡ v
    chosen values x v lt = rw lt refl

pub put_keeps : {V : Type 0} (key : V → List ℕ) (values : V → V → Ordering) (v : V) (m : List V) (i : ℕ) (x : V)
    → IsRising key bytes_cmp m → i < length m
    → HoldsAt (λ w. bytes_cmp (key w) (key v) ≡ Equal) m i → x ≡ get_or m i x → is_lt (values x v) ≡ false
    → m ≡ put key bytes_cmp values v m
put_keeps key values v m i x up below tie read lt =
    sym (put_here key values v m i x up below (tie x) ∙ ap (λ y. set m i (greater values y v)) (sym read)
    ∙ ap (λ y. set m i y) (chosen values x v lt)
    ∙ ap (λ y. set m i y) read ∙ set-get_or m i x)
  where
    chosen : {V : Type 0} (values : V → V → Ordering) (x v : V) → is_lt (values x v) ≡ false → greater values x v ≡ x
    chosen values x v lt = rw lt refl

pub took_replaced : {V : Type 0} (key : V → List ℕ) (values : V → V → Ordering) (v : V) (m : List V) (i : ℕ) (x y : V)
    → IsRising key bytes_cmp m → i < length m
    → HoldsAt (λ w. bytes_cmp (key w) (key v) ≡ Equal) m i → x ≡ get_or m i x → y ≡ get_or m i y
    → is_lt (values x v) ≡ true
    → Displaced y ≡ taken_by values v (at key bytes_cmp m (key v))
took_replaced key values v m i x y up below tie read read' lt =
    let lt' : is_lt (values y v) ≡ true = ap (λ z. is_lt (values z v)) (sym (same_read m i x y below read read'))
    ∙ lt in
    rw (at_read key (key v) m i y up below tie read', lt') refl

pub took_kept : {V : Type 0} (key : V → List ℕ) (values : V → V → Ordering) (v : V) (m : List V) (i : ℕ) (x : V)
    → IsRising key bytes_cmp m → i < length m
    → HoldsAt (λ w. bytes_cmp (key w) (key v) ≡ Equal) m i → x ≡ get_or m i x → is_lt (values x v) ≡ false
    → Returned v ≡ taken_by values v (at key bytes_cmp m (key v))
took_kept key values v m i x up below tie read lt = rw (at_read key (key v) m i x up below tie read, lt) refl

-- ---- a key and the last value

all_less : {V : Type 0} (key : V → List ℕ) (k : List ℕ) (x : V) (m : List V) (i : ℕ) → IsRising key bytes_cmp m
    → suc i ≡ length m
    → slice_get m i ≡ Some x → bytes_cmp (key x) k ≡ Less → AllByRecursion (λ w. bytes_cmp (key w) k ≡ Less) m
all_less key k x [] i up long is less = tt
all_less key k x (v ∷ []) zero up long is less =
    (subst (λ w. bytes_cmp (key w) k ≡ Less) (sym (same_Some v x is)) less, tt)
all_less key k x (v ∷ []) (suc i) up long is less = absurd (omega arith)
all_less key k x (v ∷ w ∷ m) zero up long is less = absurd (omega arith)
all_less key k x (v ∷ w ∷ m) (suc i) up long is less =
    let below : i < length (w ∷ m) = omega arith in
    let there : Member x (w ∷ m) = subst (λ y. Member y (w ∷ m)) (get_or_from_slice_get (w ∷ m) i x x is)
    (member_of (get_or (w ∷ m) i x) (w ∷ m) (Contains-get_or (w ∷ m) i x below)) in (
      nat_list_cmp_total.trans (key v) (key x) k (above_member key bytes_cmp (key v) x (w ∷ m) up.0 there) less,
      all_less key k x (w ∷ m) i up.1 (omega arith) is less,
    )

pub place_past : {V : Type 0} (key : V → List ℕ) (k : List ℕ) (x : V) (m : List V) → IsRising key bytes_cmp m
    → slice_get m (length m - 1) ≡ Some x
    → bytes_cmp (key x) k ≡ Less → IsIndex key k m (Err (length m))
place_past key k x m up is less =
    let below = slice_get_within m (length m - 1) x is in
    let all = All-from_recursion (λ w. bytes_cmp (key w) k ≡ Less) m
    (all_less key k x m (length m - 1) up (omega (arith, below)) is less) in
    (omega arith, (λ j d a b. all j d b), (λ j d a b. absurd (omega arith)))
