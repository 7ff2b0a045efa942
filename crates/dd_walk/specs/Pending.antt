-- The data sets of records while offsets are followed: each is pending until its record is reached.
use Rattle.std.specs.Prelude.{◌≡◌, ℕ, ◌+◌, ◌≤◌, ◌==◌, true, false, List, [], ◌∷◌, map, Option, Some, None, option_map}
use Rattle.std.specs.Prelude.{if◌then◌else◌}
use Rattle.dd_set.specs.declared.set.DataSet.{DataSet}
use Rattle.dd_encoding.specs.Elements.{Elements}
use Rattle.dd_set.specs.Views.{set_view}
use Rattle.dd_walk.specs.Walks.{Seen}

abbrev pub pending_view : List (Option DataSet) → List (Option Elements)
pending_view pending = map (λ (item : Option DataSet). option_map set_view item) pending

-- numbers that rise, each above those before it and none below `low`
abbrev pub Rises : ℕ → List ℕ → Type 0
Rises low [] = Unit {0}
Rises low (start ∷ starts) = (low ≤ start) × Rises (start + 1) starts

-- each set is pending, or was taken out
abbrev pub AreLeft : List Elements → List (Option Elements) → Type 0
AreLeft [] [] = Unit {0}
AreLeft [] (item ∷ pending) = ⊥
AreLeft (set ∷ sets) [] = ⊥
AreLeft (set ∷ sets) (None ∷ pending) = AreLeft sets pending
AreLeft (set ∷ sets) (Some held ∷ pending) = (held ≡ set) × AreLeft sets pending

-- the starts that were reached: their sets are no longer pending
abbrev pub reached : List ℕ → List (Option Elements) → Seen
reached [] pending p = false
reached (start ∷ starts) [] p = false
reached (start ∷ starts) (None ∷ pending) p = if p == start then true else reached starts pending p
reached (start ∷ starts) (Some held ∷ pending) p = if p == start then false else reached starts pending p

-- how many sets are pending
abbrev pub count_left : List (Option Elements) → ℕ
count_left [] = 0
count_left (None ∷ pending) = count_left pending
count_left (Some held ∷ pending) = 1 + count_left pending
