-- Catalogues that are one in harmony and withdraw the same have one plan under each choice of a label, and one refusal.
use Rattle.std.specs.Prelude.{◌≡◌, ℕ, List, Option, None, Some}
use Rattle.std.proofs.Common.{refl, sym, ◌∙◌, ap, ap₂}
use Rattle.dd_catalogue.specs.Conflicts.{first_conflict}
use Rattle.dd_catalogue.specs.Harmony.{harmonised}
use Rattle.dd_catalogue.proofs.Images.{harmony_keeps_conflict}
use Rattle.dd_dir.specs.Deriving.{either}
use Rattle.dd_dir.specs.Directories.{directory_of, unnamed_label}
use Rattle.dd_elem.specs.Digests.{uid_of_digest}
use Rattle.dd_version.specs.declared.parts.Parts.{Parts}
use Rattle.dd_layout.specs.declared.fault.PlanFault.{PlanFault}
use Rattle.dd_records.specs.declared.label.Label.{Label}
use Rattle.dd_layout.specs.Limits.{Limits}
use Rattle.dd_layout.specs.Layouts.{layout_of}
use Rattle.dd_layout.specs.Refusal.{conflict_or, excess, refusal}
use Rattle.dd_engine.specs.declared.choice.Choice.{Choice}
use Rattle.dd_engine.specs.Choosing.{derivation, label_for, refusal_for, uid_by}
use Rattle.sha2.specs.Sha256.{sha256}

same_uid : (uid : Option (List ℕ)) (id : List ℕ) (m n : List Parts) (w : List (List ℕ))
    → harmonised m ≡ harmonised n → uid_by uid id m w ≡ uid_by uid id n w
same_uid None id m n w one = ap (λ (l : List Parts). uid_of_digest (sha256 (directory_of (unnamed_label id) l w))) one
same_uid (Some uid) id m n w one = refl

same_label : (choice : Choice) (m n : List Parts) (w : List (List ℕ)) → harmonised m ≡ harmonised n
    → label_for choice m w ≡ label_for choice n w
same_label choice m n w one =
    ap (λ (uid : List ℕ). record { id = choice.id; uid = uid }) (same_uid choice.uid choice.id m n w one)

pub same_plan : (choice : Choice) (m n : List Parts) (w u : List (List ℕ)) → harmonised m ≡ harmonised n → w ≡ u
    → layout_of (label_for choice m w) m w ≡ layout_of (label_for choice n u) n u
same_plan choice m n w u one also =
    ap₂ (λ (label : Label) (l : List Parts). record { label = label; versions = l; withdrawn = w })
    (same_label choice m n w one) one
    ∙ ap (λ (x : List (List ℕ)). layout_of (label_for choice n x) n x) also

same_refusal : (label : Label) (limits : Limits) (m n : List Parts) (w : List (List ℕ))
    → harmonised m ≡ harmonised n → refusal label limits m w ≡ refusal label limits n w
same_refusal label limits m n w one =
    let conflicts : first_conflict m ≡ first_conflict n =
    sym (harmony_keeps_conflict m) ∙ ap first_conflict one ∙ harmony_keeps_conflict n in
    ap₂ (λ (c : Option (List ℕ × List ℕ)) (l : List Parts). conflict_or c (excess label limits l w)) conflicts one

same_derivation : (uid : Option (List ℕ)) (id : List ℕ) (limits : Limits) (m n : List Parts) (w : List (List ℕ))
    → harmonised m ≡ harmonised n → derivation uid id limits m w ≡ derivation uid id limits n w
same_derivation None id limits m n w one = same_refusal (unnamed_label id) limits m n w one
same_derivation (Some uid) id limits m n w one = refl

pub one_refusal : (choice : Choice) (limits : Limits) (m n : List Parts) (w u : List (List ℕ))
    → harmonised m ≡ harmonised n → w ≡ u → refusal_for choice limits m w ≡ refusal_for choice limits n u
one_refusal choice limits m n w u one also =
    ap₂ (λ (a b : Option PlanFault). either a b) (same_derivation choice.uid choice.id limits m n w one)
    (ap (λ (label : Label). refusal label limits m w) (same_label choice m n w one)
    ∙ same_refusal (label_for choice n w) limits m n w one)
    ∙ ap (λ (x : List (List ℕ)). refusal_for choice limits n x) also
