-- Versions in harmony, laid out as they are: the plan and the refusal are those of a catalogue whose versions these
-- were, where no two of them conflict.
use Rattle.std.specs.Prelude.{◌≡◌, ℕ, List, Option, None, Some}
use Rattle.std.proofs.Common.{sym, ◌∙◌, ap, ap₂}
use Rattle.dd_catalogue.specs.Conflicts.{first_conflict}
use Rattle.dd_catalogue.specs.Harmony.{harmonised}
use Rattle.dd_dir.specs.Deriving.{either, harmony_excess, harmony_label}
use Rattle.dd_dir.specs.Directories.{derived, unnamed_label}
use Rattle.dd_version.specs.declared.parts.Parts.{Parts}
use Rattle.dd_layout.specs.Layouts.{Layout, layout_of}
use Rattle.dd_layout.specs.Limits.{Limits}
use Rattle.dd_layout.specs.Refusal.{conflict_or, excess, refusal}
use Rattle.dd_layout.specs.declared.fault.PlanFault.{PlanFault}
use Rattle.dd_layout.specs.declared.fault.PlanFault.TheVariants.{Conflict}
use Rattle.dd_records.specs.declared.label.Label.{Label}
use Rattle.dd_engine.specs.declared.choice.Choice.{Choice}
use Rattle.dd_engine.specs.Choosing.{derivation, label_for, refusal_for, uid_by}

-- ---- plans

labelled : (choice : Choice) (uid : Option (List ℕ)) (m l : List Parts) (w : List (List ℕ)) → choice.uid ≡ uid
    → l ≡ harmonised m
    → record { label = record { id = choice.id; uid = uid_by uid choice.id m w }; versions = l; withdrawn = w }
    ≡ layout_of (label_for choice m w) m w
labelled choice uid m l w given is = λ j. record {
  label = record { id = choice.id; uid = uid_by (sym given j) choice.id m w };
  versions = is j;
  withdrawn = w;
}

pub named_plan : (choice : Choice) (uid : List ℕ) (m l : List Parts) (w : List (List ℕ)) (plan : Layout)
    → choice.uid ≡ Some uid → l ≡ harmonised m
    → plan ≡ record { label = record { id = choice.id; uid = uid }; versions = l; withdrawn = w }
    → plan ≡ layout_of (label_for choice m w) m w
named_plan choice uid m l w plan given is laid = laid ∙ labelled choice (Some uid) m l w given is

pub derived_plan : (choice : Choice) (m l : List Parts) (w : List (List ℕ)) (plan : Layout) → choice.uid ≡ None
    → l ≡ harmonised m
    → plan ≡ record { label = harmony_label choice.id l w; versions = l; withdrawn = w }
    → plan ≡ layout_of (label_for choice m w) m w
derived_plan choice m l w plan given is laid =
    laid
    ∙ ap (λ (n : List Parts). record { label = harmony_label choice.id n w; versions = l; withdrawn = w }) is
    ∙ labelled choice None m l w given is

-- ---- refusals

unrefused : (label : Label) (limits : Limits) (m : List Parts) (w : List (List ℕ)) → first_conflict m ≡ None
    → refusal label limits m w ≡ excess label limits (harmonised m) w
unrefused label limits m w none =
    ap (λ (c : Option (List ℕ × List ℕ)). conflict_or c (excess label limits (harmonised m) w)) none

by_uid : (choice : Choice) (limits : Limits) (m : List Parts) (w : List (List ℕ)) (uid : Option (List ℕ))
    → choice.uid ≡ uid
    → refusal_for choice limits m w ≡ either (derivation uid choice.id limits m w)
    (refusal (record { id = choice.id; uid = uid_by uid choice.id m w }) limits m w)
by_uid choice limits m w uid given =
    ap (λ (u : Option (List ℕ)). either (derivation u choice.id limits m w)
    (refusal (record { id = choice.id; uid = uid_by u choice.id m w }) limits m w)) given

pub named_excess : (choice : Choice) (limits : Limits) (uid : List ℕ) (m l : List Parts) (w : List (List ℕ))
    → choice.uid ≡ Some uid → first_conflict m ≡ None → l ≡ harmonised m
    → refusal_for choice limits m w ≡ excess (record { id = choice.id; uid = uid }) limits l w
named_excess choice limits uid m l w given none is =
    let label : Label = record { id = choice.id; uid = uid } in
    by_uid choice limits m w (Some uid) given ∙ unrefused label limits m w none
    ∙ ap (λ (n : List Parts). excess label limits n w) (sym is)

pub derived_excess : (choice : Choice) (limits : Limits) (m l : List Parts) (w : List (List ℕ))
    → choice.uid ≡ None → first_conflict m ≡ None → l ≡ harmonised m
    → refusal_for choice limits m w ≡ harmony_excess choice.id limits l w
derived_excess choice limits m l w given none is =
    by_uid choice limits m w None given
    ∙ ap₂ (λ (d e : Option PlanFault). either d e) (unrefused (unnamed_label choice.id) limits m w none)
    (unrefused (record { id = choice.id; uid = derived choice.id m w }) limits m w none)
    ∙ ap (λ (n : List Parts). harmony_excess choice.id limits n w) (sym is)

-- ---- two versions that conflict

conflicting : (label : Label) (limits : Limits) (m : List Parts) (w : List (List ℕ)) (a b : List ℕ)
    → first_conflict m ≡ Some (a, b) → refusal label limits m w ≡ Some (Conflict a b)
conflicting label limits m w a b is =
    ap (λ (c : Option (List ℕ × List ℕ)). conflict_or c (excess label limits (harmonised m) w)) is

-- their refusal comes first
pub conflict_first : (choice : Choice) (limits : Limits) (m : List Parts) (w : List (List ℕ)) (a b : List ℕ)
    → first_conflict m ≡ Some (a, b) → refusal_for choice limits m w ≡ Some (Conflict a b)
conflict_first choice limits m w a b is = by choice.uid (label_for choice m w) where
  by : (uid : Option (List ℕ)) (label : Label)
      → either (derivation uid choice.id limits m w) (refusal label limits m w) ≡ Some (Conflict a b)
  by None label =
      ap (λ (d : Option PlanFault). either d (refusal label limits m w))
      (conflicting (unnamed_label choice.id) limits m w a b is)
  by (Some uid) label = conflicting label limits m w a b is
