-- Versions of a list that get other keys, each by its place in the list.
use Rattle.std.specs.Prelude.{ℕ, List, [], ◌∷◌, if◌then◌else◌}
use Rattle.std.proofs.Common.{zero, suc}
use Rattle.dd_version.specs.declared.parts.Parts.{Parts}
use Rattle.dd_catalogue.specs.Conflicts.{same}

-- with this version at this place, where a version of its instance stands there
abbrev pub with_one : ℕ → Parts → List Parts → List Parts
with_one i w [] = []
with_one zero w (v ∷ m) = (if same v.instance w.instance then w else v) ∷ m
with_one (suc i) w (v ∷ m) = v ∷ with_one i w m

-- with each of these versions at its place, one after another
abbrev pub with_changes : List (ℕ × Parts) → List Parts → List Parts
with_changes [] m = m
with_changes (change ∷ changes) m = with_changes changes (with_one change.0 change.1 m)
