-- Keys that are withdrawn, and the values that are left.
use Rattle.std.specs.Prelude.{List, Bool, not, filter}
use Rattle.std.specs.List.{list_any}
use Rattle.std.specs.Ordering.{is_eq}
use Rattle.std.specs.declared.cmp.Ordering.{Ordering}
use Rattle.dd_catalogue.specs.Best.{best}

-- the key is not one of these
abbrev pub is_free : {K : Type 0} → (K → K → Ordering) → List K → K → Bool
is_free keys w k = not (list_any (λ u. is_eq (keys u k)) w)

-- the values whose key is not one of these
abbrev pub free : {V K : Type 0} → (V → K) → (K → K → Ordering) → List K → List V → List V
free key keys w s = filter (λ v. is_free keys w (key v)) s

-- the keys as a set: each once, rising
abbrev pub set_of : {K : Type 0} → (K → K → Ordering) → List K → List K
set_of keys w = best (λ u. u) keys keys w

-- the best of the values whose key is not one of these
abbrev pub best_free : {V K : Type 0} → (V → K) → (K → K → Ordering) → (V → V → Ordering) → List V → List K → List V
best_free key keys values s w = best key keys values (free key keys w s)
