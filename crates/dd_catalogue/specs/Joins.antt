-- Joins: that what is joined, in whatever order and however often, gives the same.
use Rattle.std.specs.Prelude.{◌≡◌, ◌≢◌, List, [], ◌∷◌}
use Rattle.std.specs.List.{All, fold}
use Rattle.dd_catalogue.specs.Best.{SameMembers}

-- over the values of a type a join gives a value again, and is commutative, associative and idempotent
pub record JoinLaws {V : Type 0} (IsValue : V → Type 0) (join : V → V → V) : Type 0 where
  pub kept : (x y : V) → IsValue x → IsValue y → IsValue (join x y)
  pub commutative : (x y : V) → IsValue x → IsValue y → join x y ≡ join y x
  pub associative : (x y z : V) → IsValue x → IsValue y → IsValue z → join (join x y) z ≡ join x (join y z)
  pub idempotent : (x : V) → IsValue x → join x x ≡ x

-- two lists of values with the same members, in any order and with repeats, give the same when they are joined
abbrev pub OrderIsFree : {V : Type 0} → (V → Type 0) → (V → V → V) → Type 0
OrderIsFree {V} IsValue join =
    (x y : V) (xs ys : List V) → All IsValue (x ∷ xs) → SameMembers (x ∷ xs) (y ∷ ys)
    → fold join x xs ≡ fold join y ys

-- where anything is joined to the first one, all are values
abbrev pub AreJoined : {V : Type 0} → (V → Type 0) → V → List V → Type 0
AreJoined IsValue x xs = xs ≢ [] → All IsValue (x ∷ xs)

-- two lists with the same members, of which this is known, give the same when they are joined
abbrev pub GatherIsFree : {V : Type 0} → (V → Type 0) → (V → V → V) → Type 0
GatherIsFree {V} IsValue join =
    (x y : V) (xs ys : List V) → AreJoined IsValue x xs → AreJoined IsValue y ys → SameMembers (x ∷ xs) (y ∷ ys)
    → fold join x xs ≡ fold join y ys
