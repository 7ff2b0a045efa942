-- What is noted of sources whose answers are known.
use Rattle.std.specs.Prelude.{◌≡◌, ℕ, List, [], map, Option, None, Some, option_map, Err}
use Rattle.std.proofs.Common.{refl, sym, ◌∙◌, ap, ap₂, subst}
use Rattle.dd_catalogue.specs.Contents.{kept_of}
use Rattle.dd_catalogue.specs.Harmony.{harmonised}
use Rattle.dd_catalogue.specs.Versions.{best_of}
use Rattle.dd_catalogue.proofs.Held.{left_of_none}
use Rattle.dd_version.specs.declared.parts.Parts.{Parts}
use Rattle.dd_layout.specs.Layouts.{layout_of}
use Rattle.dd_layout.specs.Limits.{Limits}
use Rattle.dd_layout.specs.Plans.{records_of}
use Rattle.dd_layout.specs.declared.fault.PlanFault.{PlanFault}
use Rattle.dd_layout.specs.declared.fault.PlanFault.TheVariants as plans
use Rattle.dd_engine.specs.declared.basis.Basis.{Basis}
use Rattle.dd_engine.specs.declared.choice.Choice.{Choice}
use Rattle.dd_engine.specs.declared.notes.ConflictingFiles.{ConflictingFiles}
use Rattle.dd_engine.specs.declared.notes.LeftOut.{LeftOut}
use Rattle.dd_engine.specs.declared.planning.Planned.{Planned}
use Rattle.dd_engine.specs.Choosing.{label_for, refusal_for}
use Rattle.dd_sources.specs.Faults.{as_engine}
use Rattle.dd_engine.specs.Indexed.{Indexes}
use Rattle.dd_engine.specs.IndexNotes.{ConflictsIn, LeavesOut, NamesPatients}
use Rattle.dd_keys.specs.Sources.{Answer}
use Rattle.dd_sources.specs.Indexing.{Sourced, accepted, best_of_sources, versions_of}
use Rattle.dd_engine.specs.Noting.{AreLeftOut, IsConflictOf, left_out}
use Rattle.dd_engine.specs.PatientNames.{AreNamed, with_kept_digest}
use Rattle.dd_engine.specs.Picking.{ArePicked, files_of, found_of}
use Rattle.dd_engine.specs.Planned.{IsPlanned, IsRefusedFor, IsUnplanned, filed_as_given, kept_in}
use Rattle.dd_engine.proofs.SourcesNumbered.{zip_is}

-- the sources that are left out
pub leaves_out : (answers : List Answer) (zips : List Sourced) (m : List Parts) (notes : List (LeftOut ℕ))
    → m ≡ best_of_sources (accepted answers) → zips ≡ accepted answers → AreLeftOut (λ at. at) m zips notes
    → LeavesOut answers notes
leaves_out answers zips m notes best is are =
    are ∙ ap₂ (λ (l : List Parts) (s : List Sourced). left_out l s) best is

-- ---- refusals

no_conflict : (conflict : Option (ConflictingFiles ℕ))
    → option_map {U = ℕ × ℕ} (λ conflict. (conflict.one, conflict.other)) conflict ≡ None
    → conflict ≡ None
no_conflict None is = refl
no_conflict (Some conflict) is = cc

conflict_too : (answers : List Answer) (zips : List Sourced) (m : List Parts) (fault : PlanFault)
    (conflict : Option (ConflictingFiles ℕ)) → m ≡ best_of_sources (accepted answers) → zips ≡ accepted answers
    → IsConflictOf (λ at. at) m zips fault conflict
    → IsConflictOf (λ at. at) (best_of_sources (accepted answers)) (accepted answers) fault conflict
conflict_too answers zips m fault conflict best is are =
    subst (λ s. IsConflictOf (λ at. at) (best_of_sources (accepted answers)) s fault conflict) is
    (subst (λ l. IsConflictOf (λ at. at) l zips fault conflict) best are)

-- the sources of the two versions that the refusal names
pub conflicts : (answers : List Answer) (zips : List Sourced) (m : List Parts) (fault : PlanFault)
    (conflict : Option (ConflictingFiles ℕ)) → m ≡ best_of_sources (accepted answers) → zips ≡ accepted answers
    → IsConflictOf (λ at. at) m zips fault conflict → ConflictsIn answers (as_engine fault) conflict
conflicts answers zips m plans.Memory conflict best is are = no_conflict conflict are
conflicts answers zips m (plans.Conflict one other) conflict best is are =
    conflict_too answers zips m (plans.Conflict one other) conflict best is are
conflicts answers zips m (plans.TooMany level) conflict best is are =
    conflict_too answers zips m (plans.TooMany level) conflict best is are
conflicts answers zips m plans.TooLarge conflict best is are =
    conflict_too answers zips m plans.TooLarge conflict best is are

-- ---- the plan of the sources, where its basis is their versions and nothing is withdrawn

module _ (answers : List Answer) (basis : Basis ℕ) (v : basis.versions.items ≡ versions_of (accepted answers))
    (o : basis.origins.items ≡ map (λ source. source.0) (accepted answers)) (w : basis.withdrawn ≡ [])
    (choice : Choice) (limits : Limits) where
  kept : kept_in basis ≡ best_of_sources (accepted answers)
  kept =
      ap₂ (λ (s : List Parts) (u : List (List ℕ)). kept_of s u) v w
      ∙ ap best_of (left_of_none (versions_of (accepted answers)))

  zips : filed_as_given basis ≡ accepted answers
  zips = zip_is (accepted answers) basis.origins.items basis.versions.items o v

  pub laid : (planned : Planned ℕ) → IsPlanned choice limits basis planned
      → (let m = best_of_sources (accepted answers) in planned.plan ≡ layout_of (label_for choice m []) m [])
  laid planned is =
      is.plan ∙ ap₂ (λ (m : List Parts) (u : List (List ℕ)). layout_of (label_for choice m u) m u) kept w

  pub allowed : (planned : Planned ℕ) → IsPlanned choice limits basis planned
      → refusal_for choice limits (best_of_sources (accepted answers)) [] ≡ None
  allowed planned is =
      sym (ap₂ (λ (m : List Parts) (u : List (List ℕ)). refusal_for choice limits m u) kept w) ∙ is.allowed

  pub picked : (planned : Planned ℕ) → IsPlanned choice limits basis planned
      → (let m = best_of_sources (accepted answers) in ArePicked (files_of (accepted answers)) (harmonised m)
      (records_of (label_for choice m []) (harmonised m)) planned.picks.items)
  picked planned is =
      is.picks ∙ (λ j. found_of (files_of (zips j)) (harmonised (kept j))
      (records_of (label_for choice (kept j) (w j)) (harmonised (kept j))))

  pub named : (planned : Planned ℕ) → IsPlanned choice limits basis planned
      → NamesPatients answers planned.notes.names.items
  named planned is =
      subst (λ versions. AreNamed versions planned.notes.names.items)
      (ap₂ (λ (m l : List Parts). with_kept_digest m l) kept v) is.names

  pub left : (planned : Planned ℕ) → IsPlanned choice limits basis planned
      → LeavesOut answers planned.notes.left_out.items
  left planned is = leaves_out answers _ (kept_in basis) planned.notes.left_out.items kept zips is.left

  refused_for : (fault : PlanFault) (conflict : Option (ConflictingFiles ℕ))
      → IsRefusedFor choice limits basis fault conflict
      → (refusal_for choice limits (best_of_sources (accepted answers)) [] ≡ Some fault)
      × ConflictsIn answers (as_engine fault) conflict
  refused_for fault conflict is = (
    sym (ap₂ (λ (m : List Parts) (u : List (List ℕ)). refusal_for choice limits m u) kept w) ∙ is.refused,
    conflicts answers _ (kept_in basis) fault conflict kept zips is.files,
  )

  pub refused : (fault : PlanFault) (conflict : Option (ConflictingFiles ℕ))
      → IsUnplanned choice limits basis fault conflict
      → Indexes choice limits answers (Err (as_engine fault)) × ConflictsIn answers (as_engine fault) conflict
  refused plans.Memory conflict is = (tt, is.1)
  refused (plans.Conflict a b) conflict is = refused_for (plans.Conflict a b) conflict is
  refused (plans.TooMany level) conflict is = refused_for (plans.TooMany level) conflict is
  refused plans.TooLarge conflict is = refused_for plans.TooLarge conflict is
