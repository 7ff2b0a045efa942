-- The best of a set of values: of each key the greatest value that has it. No definition here knows an order of
-- arrival: a list stands for the set of its members.
use Rattle.std.specs.Prelude.{◌≡◌, ◌↔◌, false, List, [], ◌∷◌, Option, Contains, find, if◌then◌else◌}
use Rattle.std.specs.List.{AllByRecursion}
use Rattle.std.specs.Ordering.{is_lt, is_eq}
use Rattle.std.specs.declared.cmp.Ordering.{Ordering}
use Rattle.std.specs.declared.cmp.Ordering.TheVariants.{Less, Equal, Greater}

-- each value has a key above this one
abbrev pub IsAbove : {V K : Type 0} → (V → K) → (K → K → Ordering) → K → List V → Type 0
IsAbove key keys k m = AllByRecursion (λ w. keys k (key w) ≡ Less) m

-- the keys rise
abbrev pub IsRising : {V K : Type 0} → (V → K) → (K → K → Ordering) → List V → Type 0
IsRising key keys [] = Unit {0}
IsRising key keys (v ∷ m) = IsAbove key keys (key v) m × IsRising key keys m

-- the first value with this key
abbrev pub at : {V K : Type 0} → (V → K) → (K → K → Ordering) → List V → K → Option V
at key keys m k = find (λ v. is_eq (keys (key v) k)) m

-- the greater of two values
abbrev pub greater : {V : Type 0} → (V → V → Ordering) → V → V → V
greater values v w = if is_lt (values v w) then w else v

-- ---- the best of a set, as a relation

-- two lists have the same members, whatever their order and however often
abbrev pub SameMembers : {V : Type 0} → List V → List V → Type 0
SameMembers {V} s t = (v : V) → Contains s v ↔ Contains t v

-- a member of the set than which no member with its key is greater
pub record IsGreatest {V K : Type 0} (key : V → K) (values : V → V → Ordering) (s : List V) (v : V) : Type 0 where
  pub member : Contains s v
  pub greatest : (w : V) → Contains s w → key w ≡ key v → is_lt (values v w) ≡ false

-- rising by key, and its members are exactly the greatest of the set
pub record IsBest {V K : Type 0} (key : V → K) (keys : K → K → Ordering) (values : V → V → Ordering)
    (s m : List V) : Type 0 where
  pub rising : IsRising key keys m
  pub each : (v : V) → Contains m v ↔ IsGreatest key values s v

-- ---- the same as a function: one value after another is put at its place

abbrev pub place_by : {A : Type 0} → Ordering → A → A → A → A
place_by Less before here after = before
place_by Equal before here after = here
place_by Greater before here after = after

-- one value more, where no greater one with its key is there
abbrev pub put : {V K : Type 0} → (V → K) → (K → K → Ordering) → (V → V → Ordering) → V → List V → List V
put key keys values v [] = v ∷ []
put key keys values v (w ∷ m) =
    place_by (keys (key v) (key w)) (v ∷ w ∷ m) (greater values w v ∷ m) (w ∷ put key keys values v m)

abbrev pub best : {V K : Type 0} → (V → K) → (K → K → Ordering) → (V → V → Ordering) → List V → List V
best key keys values [] = []
best key keys values (v ∷ s) = put key keys values v (best key keys values s)
