-- Why versions in harmony are refused, by the level that is crowded and by the size.
use Rattle.std.specs.Prelude.{◌≡◌, ◌<◌, ◌≤◌, ℕ, Bool, List, Option, None, Some, if◌then◌else◌}
use Rattle.std.proofs.Common.{◌∙◌, ap}
use Rattle.std.proofs.lemmas.Bool.{le-ltb, lt-ltb}
use Rattle.dd_version.specs.declared.parts.Parts.{Parts}
use Rattle.dd_layout.specs.declared.fault.PlanFault.TheVariants.{TooLarge, TooMany}
use Rattle.dd_records.specs.declared.label.Label.{Label}
use Rattle.dd_records.specs.declared.level.Level.{Level}
use Rattle.dd_layout.specs.Limits.{Limits}
use Rattle.dd_layout.specs.Plans.{size, tree}
use Rattle.dd_layout.specs.Refusal.{crowded, crowding_or, excess, oversize}

pub too_many : (label : Label) (limits : Limits) (versions : List Parts) (withdrawn : List (List ℕ)) (level : Level)
    → crowded limits.per_level (tree versions) ≡ Some level
    → excess label limits versions withdrawn ≡ Some (TooMany level)
too_many label limits versions withdrawn level is =
    ap (λ (o : Option Level). crowding_or o (oversize limits.bytes (size label versions withdrawn))) is

-- where no level is crowded, the size decides
by_size : (label : Label) (limits : Limits) (versions : List Parts) (withdrawn : List (List ℕ))
    → crowded limits.per_level (tree versions) ≡ None
    → excess label limits versions withdrawn ≡ oversize limits.bytes (size label versions withdrawn)
by_size label limits versions withdrawn is =
    ap (λ (o : Option Level). crowding_or o (oversize limits.bytes (size label versions withdrawn))) is

pub too_large : (label : Label) (limits : Limits) (versions : List Parts) (withdrawn : List (List ℕ))
    → crowded limits.per_level (tree versions) ≡ None → limits.bytes < size label versions withdrawn
    → excess label limits versions withdrawn ≡ Some TooLarge
too_large label limits versions withdrawn is large =
    by_size label limits versions withdrawn is
    ∙ ap (λ (b : Bool). if b then Some TooLarge else None)
    (lt-ltb limits.bytes (size label versions withdrawn) large)

pub no_excess : (label : Label) (limits : Limits) (versions : List Parts) (withdrawn : List (List ℕ))
    → crowded limits.per_level (tree versions) ≡ None → size label versions withdrawn ≤ limits.bytes
    → excess label limits versions withdrawn ≡ None
no_excess label limits versions withdrawn is fits =
    by_size label limits versions withdrawn is
    ∙ ap (λ (b : Bool). if b then Some TooLarge else None)
    (le-ltb limits.bytes (size label versions withdrawn) fits)
