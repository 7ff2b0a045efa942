-- What a table of the greatest values does with one more value.
use Rattle.std.specs.Prelude.{◌≡◌, ◌<◌, ◌≤◌, ◌+◌, ◌-◌, ℕ, List, Option, Some, None, Result, Ok, Err, length, min}
use Rattle.std.specs.Prelude.{if◌then◌else◌}
use Rattle.std.specs.List.{AllWithin, HoldsAt}
use Rattle.std.specs.Ordering.{is_lt}
use Rattle.std.specs.declared.cmp.Ordering.{Ordering}
use Rattle.std.specs.declared.cmp.Ordering.TheVariants.{Less, Equal, Greater}
use Rattle.dd_elem.specs.Ordered.{bytes_cmp}
use Rattle.dd_catalogue.specs.declared.best.Taken.{Taken}
use Rattle.dd_catalogue.specs.declared.best.Taken.TheVariants.{Fresh, Displaced, Returned}

-- the index of a value with this key, or the one between the smaller and the greater keys
abbrev pub IsIndex : {V : Type 0} → (V → List ℕ) → List ℕ → List V → Result ℕ ℕ → Type 0
IsIndex key k m (Ok i) = (i < length m) × HoldsAt (λ w. bytes_cmp (key w) k ≡ Equal) m i
IsIndex key k m (Err i) = (i ≤ length m) × AllWithin (λ w. bytes_cmp (key w) k ≡ Less) m 0 i
    × AllWithin (λ w. bytes_cmp (key w) k ≡ Greater) m i (length m)

-- what becomes of a value where this one is held
abbrev pub taken_by : {V : Type 0} → (V → V → Ordering) → V → Option V → Taken V
taken_by values v None = Fresh
taken_by values v (Some w) = if is_lt (values w v) then Displaced w else Returned v

-- how many keys are smaller than the key that was looked for
abbrev pub found_index : Result ℕ ℕ → ℕ
found_index (Ok i) = i
found_index (Err i) = i

-- how many are at most that key
abbrev pub passed_by : Result ℕ ℕ → ℕ
passed_by (Ok i) = i + 1
passed_by (Err i) = i

-- how many of n keys a search compares and does not pass: the first one that is greater, where there is one
abbrev pub met_by : ℕ → Result ℕ ℕ → ℕ
met_by n (Ok i) = 0
met_by n (Err i) = min 1 (n - i)
