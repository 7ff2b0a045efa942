-- One step of two lists that rise by key and are woven into one.
use Rattle.std.specs.Prelude.{◌≡◌, ◌<◌, ◌+◌, List, ◌∷◌, ◌++◌, Option, Some, None, length}
use Rattle.std.specs.declared.cmp.Ordering.{Ordering}
use Rattle.dd_catalogue.specs.Best.{IsRising, best}
use Rattle.dd_catalogue.specs.Compared.{compared}

-- the first value of the best of m and n, and what is left of them; none where one of them is at its end
abbrev pub IsStep : {V K : Type 0} → (V → K) → (K → K → Ordering) → (V → V → Ordering) → List V → List V → Option V
    → List V → List V → Type 0
IsStep key keys values m n None m' n' =
    (m' ≡ m) × (n' ≡ n) × (best key keys values (m ++ n) ≡ m ++ n) × (compared key keys values m n ≡ 0)
IsStep key keys values m n (Some v) m' n' =
    IsRising key keys m' × IsRising key keys n' × (length m' + length n' < length m + length n)
    × (best key keys values (m ++ n) ≡ v ∷ best key keys values (m' ++ n')) ×
    (compared key keys values m n ≡ 1 + compared key keys values m' n')
