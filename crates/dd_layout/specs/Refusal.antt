-- Why a catalogue has no place in a directory (PS3.3 section F.3, PS3.10 section 8.2).
use Rattle.std.specs.Prelude.{ℕ, ◌==◌, ◌&&◌, Bool, List, [], ◌∷◌, length, find, is_some, Option, None, Some, nat_lt}
use Rattle.std.specs.Prelude.{if◌then◌else◌}
use Rattle.dd_catalogue.specs.Conflicts.{first_conflict}
use Rattle.dd_catalogue.specs.Harmony.{harmonised}
use Rattle.dd_version.specs.declared.parts.Parts.{Parts}
use Rattle.dd_layout.specs.declared.fault.PlanFault.{PlanFault}
use Rattle.dd_layout.specs.declared.fault.PlanFault.TheVariants.{Conflict, TooMany, TooLarge}
use Rattle.dd_records.specs.declared.label.Label.{Label}
use Rattle.dd_records.specs.declared.level.Level.{Level}
use Rattle.dd_records.specs.declared.level.Level.TheVariants.{Patient, Study, Series, Image}
use Rattle.dd_layout.specs.Limits.{Limits}
use Rattle.dd_records.specs.Levels.{levels}
use Rattle.dd_layout.specs.Paths.{Path}
use Rattle.dd_layout.specs.Plans.{tree, size}
use Rattle.dd_layout.specs.Tree.{children}

-- how many records stand above one of this level
abbrev pub above : Level → ℕ
above Patient = 0
above Study = 1
above Series = 2
above Image = 3

-- one parent has more children of this level than this number; the root is the parent of the patients
abbrev pub is_crowded : ℕ → List Path → Level → Bool
is_crowded most paths level =
    is_some (find (λ x. (length x == above level) && nat_lt most (length (children paths x))) ([] ∷ paths))

-- the topmost level of such children
abbrev pub crowded : ℕ → List Path → Option Level
crowded most paths = find (is_crowded most paths) levels

-- the size passes the limit
abbrev pub oversize : ℕ → ℕ → Option PlanFault
oversize most bytes = if nat_lt most bytes then Some TooLarge else None

-- too many children before too many bytes, and conflicts before both
abbrev pub crowding_or : Option Level → Option PlanFault → Option PlanFault
crowding_or None other = other
crowding_or (Some level) other = Some (TooMany level)

abbrev pub conflict_or : Option (List ℕ × List ℕ) → Option PlanFault → Option PlanFault
conflict_or None other = other
conflict_or (Some pair) other = Some (Conflict pair.0 pair.1)

-- of versions in harmony and withdrawn UIDs, under this label: too many children, or too many bytes
abbrev pub excess : Label → Limits → List Parts → List (List ℕ) → Option PlanFault
excess label limits versions withdrawn =
    crowding_or (crowded limits.per_level (tree versions)) (oversize limits.bytes (size label versions withdrawn))

-- of a catalogue of these versions and withdrawn UIDs, under this label
abbrev pub refusal : Label → Limits → List Parts → List (List ℕ) → Option PlanFault
refusal label limits m withdrawn = conflict_or (first_conflict m) (excess label limits (harmonised m) withdrawn)
