-- How many pairs of keys are compared where two lists that rise by key are joined.
use Rattle.std.specs.Prelude.{ℕ, List, Bool, ◌++◌, ◌&&◌}
use Rattle.std.specs.List.{list_any, count_by}
use Rattle.std.specs.Ordering.{is_le}
use Rattle.std.specs.declared.cmp.Ordering.{Ordering}
use Rattle.dd_catalogue.specs.Best.{best}

-- the key is at most a key of the list, so at most its greatest one
abbrev pub is_reached : {V K : Type 0} → (V → K) → (K → K → Ordering) → K → List V → Bool
is_reached key keys k m = list_any (λ w. is_le (keys k (key w))) m

-- the key of the value is at most the greatest key of each list
abbrev pub is_compared : {V K : Type 0} → (V → K) → (K → K → Ordering) → List V → List V → V → Bool
is_compared key keys m n v = is_reached key keys (key v) m && is_reached key keys (key v) n

-- how many keys of either list are at most the greatest key of each: a key that both have counts once
abbrev pub compared : {V K : Type 0} → (V → K) → (K → K → Ordering) → (V → V → Ordering) → List V → List V → ℕ
compared key keys values m n = count_by (is_compared key keys m n) (best key keys values (m ++ n))

-- the same of two lists of keys
abbrev pub compared_keys : {K : Type 0} → (K → K → Ordering) → List K → List K → ℕ
compared_keys keys w u = compared (λ k. k) keys keys w u
