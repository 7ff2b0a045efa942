-- Lists of references, seen as the values that they lend.
use Rattle.std.specs.Prelude.{◌≡◌, ◌<◌, ◌≤◌, ℕ, Bool, true, List, [], ◌∷◌, Result, Ok, Err, filter, length, map}
use Rattle.std.specs.Prelude.{get_or, set}
use Rattle.std.specs.List.{AllWithin, HoldsAt, insert}
use Rattle.std.specs.Ordering.{is_lt}
use Rattle.std.specs.declared.cmp.Ordering.{Ordering}
use Rattle.std.specs.declared.cmp.Ordering.TheVariants.{Less, Equal, Greater}
use Rattle.std.proofs.Common.{refl, sym, ◌∙◌, ap, subst, arith, zero, suc}
use Rattle.std.proofs.lemmas.List.{map-set, length-map}
use Rattle.std.proofs.lemmas.List as lists
use Rattle.std.proofs.Math.ListN as seq
use Rattle.dd_elem.specs.Ordered.{bytes_cmp}
use Rattle.dd_catalogue.specs.Best.{IsAbove, IsRising, put}
use Rattle.dd_catalogue.specs.Rising.{by_test}
use Rattle.dd_catalogue.specs.Table.{IsIndex}
use Rattle.dd_catalogue.proofs.Places.{put_replaces, put_between}

above_under : {B V : Type 0} (now : B → V) (key : V → List ℕ) (k : List ℕ) (m : List B)
    → IsAbove key bytes_cmp k (map now m) → IsAbove (λ x. key (now x)) bytes_cmp k m
above_under now key k [] up = tt
above_under now key k (x ∷ m) up = (up.0, above_under now key k m up.1)

pub rising_under : {B V : Type 0} (now : B → V) (key : V → List ℕ) (m : List B)
    → IsRising key bytes_cmp (map now m) → IsRising (λ x. key (now x)) bytes_cmp m
rising_under now key [] up = tt
rising_under now key (x ∷ m) up = (above_under now key (key (now x)) m up.0, rising_under now key m up.1)

some_item : {B : Type 0} (m : List B) (i : ℕ) → i < length m → B
some_item [] i below = absurd (omega arith)
some_item (x ∷ m) i below = x

-- a place among references is one among the values
pub place_under : {B V : Type 0} (now : B → V) (key : V → List ℕ) (k : List ℕ) (m : List B) (r : Result ℕ ℕ)
    → IsIndex (λ x. key (now x)) k m r → IsIndex key k (map now m) r
place_under now key k m (Ok i) is = (
  subst (λ n. i < n) (sym (length-map m now)) is.0,
  (λ e. let d = some_item m i is.0 in subst (λ x. bytes_cmp (key x) k ≡ Equal) (sym
      (lists.get_or-map now m i d e is.0)) (is.1 d)),
)
place_under now key k m (Err i) is = (
  subst (λ n. i ≤ n) (sym (length-map m now)) is.0,
  (λ j e a b. let below : j < length m = omega (arith, is.0) in let d = some_item m j below in
      subst (λ x. bytes_cmp (key x) k ≡ Less) (sym (lists.get_or-map now m j d e below)) (is.1 j d a b)),
  (λ j e a b. let below : j < length m = subst (λ n. j < n) (length-map m now) b in let d = some_item m j below in
      subst (λ x. bytes_cmp (key x) k ≡ Greater) (sym (lists.get_or-map now m j d e below)) (is.2 j d a below)),
)

-- what is left of references is what is left of their values
pub map_filter : {B V : Type 0} (now : B → V) (test : V → Bool) (m : List B)
    → map now (filter (λ x. test (now x)) m) ≡ filter test (map now m)
map_filter now test [] = refl
map_filter now test (x ∷ m) = by_test (test (now x))
    (λ e. rw e (ap (λ s. now x ∷ s) (map_filter now test m)))
    (λ e. rw e (map_filter now test m))

pub read_under : {B V : Type 0} (now : B → V) (m : List B) (i : ℕ) (x : B) → x ≡ get_or m i x
    → now x ≡ get_or (map now m) i (now x)
read_under now m i x read = ap now read ∙ sym (seq.get_or-map now m i x)

-- a value is challenged by one with its key: x is what stands at i
pub lent_replaces : {B V : Type 0} (now : B → V) (key : V → List ℕ) (values : V → V → Ordering) (v : B) (m : List B)
    (i : ℕ) (x : B)
    → IsRising key bytes_cmp (map now m) → i < length (map now m)
    → HoldsAt (λ w. bytes_cmp (key w) (key (now v)) ≡ Equal) (map now m) i
    → x ≡ get_or m i x → is_lt (values (now x) (now v)) ≡ true
    → map now (set m i v) ≡ put key bytes_cmp values (now v) (map now m)
lent_replaces now key values v m i x up below tie read lt =
    map-set now m i v ∙ put_replaces key values (now v) (map now m) i (now x) up below tie
    (read_under now m i x read) lt

pub map_insert : {B V : Type 0} (now : B → V) (m : List B) (i : ℕ) (v : B) → i ≤ length m
    → map now (insert m i v) ≡ insert (map now m) i (now v)
map_insert now m zero v le = refl
map_insert now [] (suc i) v le = absurd (omega arith)
map_insert now (x ∷ m) (suc i) v le = ap (λ t. now x ∷ t) (map_insert now m i v (omega arith))

-- a value stands between the smaller and the greater keys
pub lent_between : {B V : Type 0} (now : B → V) (key : V → List ℕ) (values : V → V → Ordering) (v : B) (m : List B)
    (i : ℕ) → i ≤ length (map now m)
    → AllWithin (λ w. bytes_cmp (key w) (key (now v)) ≡ Less) (map now m) 0 i
    → AllWithin (λ w. bytes_cmp (key w) (key (now v)) ≡ Greater) (map now m) i (length (map now m))
    → map now (insert m i v) ≡ put key bytes_cmp values (now v) (map now m)
lent_between now key values v m i le low high =
    map_insert now m i v (subst (λ n. i ≤ n) (length-map m now) le)
    ∙ sym (put_between key values (now v) (map now m) i le low high)
