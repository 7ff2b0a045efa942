-- The paths that have a level.
use Rattle.std.specs.Prelude.{[], ◌∷◌}
use Rattle.dd_layout.specs.Paths.{Path}

-- a path of one to four parts
abbrev pub HasLevel : Path → Type 0
HasLevel [] = ⊥
HasLevel (patient ∷ []) = Unit {0}
HasLevel (patient ∷ study ∷ []) = Unit {0}
HasLevel (patient ∷ study ∷ series ∷ []) = Unit {0}
HasLevel (patient ∷ study ∷ series ∷ image ∷ []) = Unit {0}
HasLevel (patient ∷ study ∷ series ∷ image ∷ part ∷ path) = ⊥
