-- What is made of what was merged, and why it is not made.
use Rattle.std.proofs.Common.{◌≡◌, ◌∙◌, ℕ, List, [], ◌∷◌, Result, Ok, Err, Some, ap, arith, inl, inr, refl, subst, sym}
use Rattle.std.specs.Prelude.{◌≢◌, ◌⊎◌, IfErr, IfOk}
use Rattle.dd_catalogue.specs.Best.{IsRising}
use Rattle.dd_catalogue.specs.Harmony.{harmonised}
use Rattle.dd_catalogue.specs.Versions.{IsCatalogue}
use Rattle.dd_elem.specs.Ordered.{bytes_cmp}
use Rattle.dd_version.specs.declared.parts.Parts.{Parts}
use Rattle.dd_layout.specs.Layouts.{Layout, layout_of}
use Rattle.dd_layout.specs.Limits.{Limits}
use Rattle.dd_layout.specs.declared.fault.PlanFault.{PlanFault}
use Rattle.dd_layout.specs.declared.fault.PlanFault.TheVariants as plan_faults
use Rattle.dd_dir.specs.Deriving.{derived_label, derived_refusal}
use Rattle.dd_dir.specs.Directories.{directory_of}
use Rattle.dd_dir.specs.SaysItself.{SaysItself}
use Rattle.dd_making.specs.Images.{IsOfVersion}
use Rattle.dd_engine.specs.declared.choice.Choice.{Choice}
use Rattle.dd_engine.specs.declared.merge.Merged.{Merged}
use Rattle.dd_engine.specs.declared.merge_fault.MergeFault.TheVariants.{Memory}
use Rattle.dd_engine.specs.Merging.{Merges}
use Rattle.dd_calls.specs.declared.answer.Answer.{Answer}
use Rattle.dd_calls.specs.Sizes.{by_number}
use Rattle.dd_making.specs.declared.made.Made.{Made}
use Rattle.dd_making.specs.Merges.{IsMade, IsMadeOf, IsNotMade, no_limits}

module _ (choice : Choice) (given sets : List (List ℕ)) (limits : Limits) (merged : Merged) (all : limits ≡ no_limits)
    (merges : Merges choice limits given sets (Ok merged)) where
  unlimited : Merges choice no_limits given sets (Ok merged)
  unlimited = subst (λ (l : Limits). Merges choice l given sets (Ok merged)) all merges

  pub made : (r : Result Made Answer) → IfOk r (IsMadeOf merged) → IfOk r (IsMade choice given sets)
  made (Ok m) is = record { merged = merged; merges = unlimited; is = is }
  made (Err answer) is = is

  pub not_made : (r : Result Made Answer) → IfErr r (λ answer. answer ≡ by_number 91)
      → IfErr r (IsNotMade choice given sets)
  not_made (Ok m) is = is
  not_made (Err answer) is = record { fault = Memory; why = inr (refl, (merged, unlimited)); answers = is }

  pub not_made_or : (Or : Answer → Type 0) (r : Result Made Answer) → IfErr r (λ answer. answer ≡ by_number 91)
      → IfErr r (λ answer. Or answer ⊎ IsNotMade choice given sets answer)
  not_made_or Or (Ok m) is = is
  not_made_or Or (Err answer) is =
      inr (record { fault = Memory; why = inr (refl, (merged, unlimited)); answers = is })

-- ---- one version

pub refused_alone : (version : Parts) (fault : PlanFault) (id : List ℕ) (limits : Limits) (m : List Parts)
    (w : List (List ℕ)) (X : Type 0) → id ≡ [] → limits ≡ no_limits → m ≡ version ∷ [] → w ≡ []
    → ((fault ≡ plan_faults.Memory) × X) ⊎ (derived_refusal id limits m w ≡ Some fault)
    → (fault ≡ plan_faults.Memory) ⊎ (derived_refusal [] no_limits (version ∷ []) [] ≡ Some fault)
refused_alone version fault id limits m w X no_id all alone none (inl memory) = inl memory.0
refused_alone version fault id limits m w X no_id all alone none (inr refused) =
    inr (sym (ap (λ (i : List ℕ). derived_refusal i limits m w) no_id
    ∙ ap (λ (l : Limits). derived_refusal [] l m w) all
    ∙ ap (λ (n : List Parts). derived_refusal [] no_limits n w) alone
    ∙ ap (λ (u : List (List ℕ)). derived_refusal [] no_limits (version ∷ []) u) none) ∙ refused)

pub of_version : (version : Parts) (text : List ℕ) (plan : Layout) (id : List ℕ) (m : List Parts) (w : List (List ℕ))
    → id ≡ [] → m ≡ version ∷ [] → w ≡ [] → plan ≡ layout_of (derived_label id m w) m w
    → text ≡ directory_of plan.label plan.versions plan.withdrawn
    → ((n : List Parts) → IsCatalogue n → plan.versions ≡ harmonised n
    → IsRising (λ (uid : List ℕ). uid) bytes_cmp plan.withdrawn → SaysItself n plan.withdrawn text)
    → IsOfVersion version text
of_version version text plan id m w no_id alone none planned bytes says =
    let laid : plan ≡ layout_of (derived_label [] (version ∷ []) []) (version ∷ []) [] =
    planned ∙ ap (λ (i : List ℕ). layout_of (derived_label i m w) m w) no_id
    ∙ ap (λ (n : List Parts). layout_of (derived_label [] n w) n w) alone
    ∙ ap (λ (u : List (List ℕ)). layout_of (derived_label [] (version ∷ []) u) (version ∷ []) u) none in
    let gone : plan.withdrawn ≡ [] = ap (λ (p : Layout). p.withdrawn) laid in
    record {
      is_directory = bytes ∙ ap (λ (p : Layout). directory_of p.label p.versions p.withdrawn) laid;
      says = subst (λ (u : List (List ℕ)). SaysItself (version ∷ []) u text) gone
          (says (version ∷ []) (tt, tt) (ap (λ (p : Layout). p.versions) laid)
          (subst (λ (u : List (List ℕ)). IsRising (λ (uid : List ℕ). uid) bytes_cmp u) (sym gone) tt));
    }

pub one_not_zero : (n : ℕ) → n ≡ 1 → n ≢ 0
one_not_zero n one zero = omega (arith, one, zero)
