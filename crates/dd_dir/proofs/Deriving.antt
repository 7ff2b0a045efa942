-- What is derived from the plan under the label without a UID of its own, and the refusal under another label.
use Rattle.std.specs.Prelude.{◌≡◌, ◌≢◌, ◌⊎◌, ℕ, List, Option, None, Some}
use Rattle.std.proofs.Common.{sym, ◌∙◌, ap, inl, inr}
use Rattle.sha2.specs.Sha256.{sha256}
use Rattle.dd_catalogue.specs.Contents.{Contents, nothing}
use Rattle.dd_catalogue.specs.Harmony.{harmonised}
use Rattle.dd_catalogue.specs.HarmonyFound.{IsHarmonyOf}
use Rattle.dd_catalogue.specs.declared.outcomes.Harmony.TheVariants.{Found}
use Rattle.dd_elem.specs.Digests.{uid_of_digest}
use Rattle.dd_version.specs.declared.parts.Parts.{Parts}
use Rattle.dd_layout.specs.declared.fault.PlanFault.{PlanFault}
use Rattle.dd_layout.specs.declared.fault.PlanFault.TheVariants.{Memory}
use Rattle.dd_records.specs.declared.label.Label.{Label}
use Rattle.dd_layout.specs.Limits.{Limits}
use Rattle.dd_layout.specs.Layouts.{Layout, layout_of}
use Rattle.dd_layout.specs.Refusal.{conflict_or, excess}
use Rattle.dd_dir.specs.Deriving.{derived_label, derived_refusal, either, harmony_excess, harmony_label}
use Rattle.dd_dir.specs.Directories.{directory_of, unnamed_label}

-- the UID of a plan
abbrev pub uid_by_plan : Layout → List ℕ
uid_by_plan plan = uid_of_digest (sha256 (directory_of plan.label plan.versions plan.withdrawn))

-- the plan of versions in harmony
abbrev pub plan_of : Label → List Parts → List (List ℕ) → Layout
plan_of label m w = record { label = label; versions = m; withdrawn = w }

pub uid_is_derived : (id : List ℕ) (m : List Parts) (w : List (List ℕ)) (label : Label) (plan : Layout)
    → plan ≡ plan_of label m w → label ≡ unnamed_label id → uid_by_plan plan ≡ (harmony_label id m w).uid
uid_is_derived id m w label plan plan_is label_is =
    ap uid_by_plan (plan_is ∙ ap (λ (l : Label). plan_of l m w) label_is)

-- the plan under the derived UID
pub plan_is_derived : (id : List ℕ) (m : List Parts) (w : List (List ℕ)) (label : Label) (plan : Layout)
    (uid : List ℕ) → plan ≡ plan_of label m w → uid ≡ (harmony_label id m w).uid
    → record plan { label = record { id = id; uid = uid } } ≡ plan_of (harmony_label id m w) m w
plan_is_derived id m w label plan uid plan_is uid_is =
    ap (λ (p : Layout). record p { label = record { id = id; uid = uid } }) plan_is
    ∙ ap (λ (u : List ℕ). plan_of (record { id = id; uid = u }) m w) uid_is

-- versions that were laid out have no excess under the label without a UID
pub refusal_is_derived : (id : List ℕ) (limits : Limits) (m : List Parts) (w : List (List ℕ)) (label : Label)
    (plan : Layout) (uid : List ℕ) → plan ≡ plan_of label m w → label ≡ unnamed_label id
    → uid ≡ (harmony_label id m w).uid → excess label limits m w ≡ None
    → excess (record { id = id; uid = uid }) limits plan.versions plan.withdrawn ≡ harmony_excess id limits m w
refusal_is_derived id limits m w label plan uid plan_is label_is uid_is none =
    let at_first : excess (unnamed_label id) limits m w ≡ None =
    ap (λ (l : Label). excess l limits m w) (sym label_is) ∙ none in
    ap (λ (p : Layout). excess (record { id = id; uid = uid }) limits p.versions p.withdrawn) plan_is
    ∙ ap (λ (u : List ℕ). excess (record { id = id; uid = u }) limits m w) uid_is
    ∙ ap (λ (o : Option PlanFault). either o (excess (harmony_label id m w) limits m w)) (sym at_first)

-- ---- the harmony of a catalogue is laid out as the catalogue

pub plan_of_harmony : (id : List ℕ) (c h : Contents) → IsHarmonyOf c (Found h)
    → plan_of (harmony_label id h.versions h.withdrawn) h.versions h.withdrawn
    ≡ layout_of (derived_label id c.versions c.withdrawn) c.versions c.withdrawn
plan_of_harmony id c h found =
    ap (λ (x : Contents). plan_of (harmony_label id x.versions x.withdrawn) x.versions x.withdrawn) found.1

pub refusal_of_harmony : (id : List ℕ) (limits : Limits) (c h : Contents) → IsHarmonyOf c (Found h)
    → harmony_excess id limits h.versions h.withdrawn ≡ derived_refusal id limits c.versions c.withdrawn
refusal_of_harmony id limits c h found =
    ap (λ (x : Contents). harmony_excess id limits x.versions x.withdrawn) found.1
    ∙ ap (λ (pair : Option (List ℕ × List ℕ)). either
    (conflict_or pair (excess (unnamed_label id) limits (harmonised c.versions) c.withdrawn))
    (conflict_or pair (excess (derived_label id c.versions c.withdrawn) limits (harmonised c.versions) c.withdrawn)))
    (sym found.0)

-- only nothing has nothing in harmony
some_held : (c h : Contents) → IsHarmonyOf c (Found h) → h ≢ nothing → c ≢ nothing
some_held c h found some = λ (none : c ≡ nothing).
    some (found.1
    ∙ ap (λ (x : Contents). record { versions = harmonised x.versions; withdrawn = x.withdrawn }) none)

pub fault_of_harmony : (id : List ℕ) (limits : Limits) (c h : Contents) (fault : PlanFault) → IsHarmonyOf c (Found h)
    → ((fault ≡ Memory) × (h ≢ nothing)) ⊎ (harmony_excess id limits h.versions h.withdrawn ≡ Some fault)
    → ((fault ≡ Memory) × (c ≢ nothing)) ⊎ (derived_refusal id limits c.versions c.withdrawn ≡ Some fault)
fault_of_harmony id limits c h fault found (inl memory) = inl (memory.0, some_held c h found memory.1)
fault_of_harmony id limits c h fault found (inr is) = inr (sym (refusal_of_harmony id limits c h found) ∙ is)
