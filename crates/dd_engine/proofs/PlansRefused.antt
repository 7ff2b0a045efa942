-- No refusal by versions, label and limits is Memory.
use Rattle.std.specs.Prelude.{◌≡◌, Bool, true, false, ℕ, List, nat_lt, Option, None, Some}
use Rattle.std.specs.Prelude.{if◌then◌else◌}
use Rattle.std.proofs.lemmas.Option.{none-some}
use Rattle.dd_catalogue.specs.Conflicts.{first_conflict}
use Rattle.dd_catalogue.specs.Harmony.{harmonised}
use Rattle.dd_dir.specs.Directories.{unnamed_label}
use Rattle.dd_version.specs.declared.parts.Parts.{Parts}
use Rattle.dd_layout.specs.Limits.{Limits}
use Rattle.dd_layout.specs.Plans.{size, tree}
use Rattle.dd_layout.specs.Refusal.{conflict_or, crowded, crowding_or, refusal}
use Rattle.dd_layout.specs.declared.fault.PlanFault.TheVariants as plans
use Rattle.dd_records.specs.declared.label.Label.{Label}
use Rattle.dd_records.specs.declared.level.Level.{Level}
use Rattle.dd_engine.specs.declared.choice.Choice.{Choice}
use Rattle.dd_engine.specs.Choosing.{derivation, label_for, refusal_for}
use Rattle.dd_engine.proofs.BothFound.{one_of}

refusal_apart : (label : Label) (limits : Limits) (m : List Parts) (w : List (List ℕ))
    → refusal label limits m w ≡ Some plans.Memory → ⊥
refusal_apart label limits m w is =
    by (first_conflict m) (crowded limits.per_level (tree (harmonised m)))
    (nat_lt limits.bytes (size label (harmonised m) w)) is
  where
    by : (c : Option (List ℕ × List ℕ)) (o : Option Level) (t : Bool)
        → conflict_or c (crowding_or o (if t then Some plans.TooLarge else None)) ≡ Some plans.Memory → ⊥
    by (Some pair) o t is = cc
    by None (Some level) t is = cc
    by None None true is = cc
    by None None false is = cc

derivation_apart : (uid : Option (List ℕ)) (id : List ℕ) (limits : Limits) (m : List Parts) (w : List (List ℕ))
    → derivation uid id limits m w ≡ Some plans.Memory → ⊥
derivation_apart None id limits m w is = refusal_apart (unnamed_label id) limits m w is
derivation_apart (Some uid) id limits m w is = absurd (none-some plans.Memory is)

pub plan_apart : (choice : Choice) (limits : Limits) (m : List Parts) (w : List (List ℕ))
    → refusal_for choice limits m w ≡ Some plans.Memory → ⊥
plan_apart choice limits m w is =
    one_of (derivation choice.uid choice.id limits m w) (refusal (label_for choice m w) limits m w) plans.Memory
    (λ e. derivation_apart choice.uid choice.id limits m w e)
    (λ e. refusal_apart (label_for choice m w) limits m w e) is
