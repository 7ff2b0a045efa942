-- The plan of what was gathered of sets, where its basis is their versions and what is withdrawn.
use Rattle.std.specs.Prelude.{◌≡◌, ◌≢◌, ◌⊎◌, ℕ, List, [], ◌∷◌, ◌++◌, map, None, Option, Some, Err}
use Rattle.std.proofs.Common.{sym, ◌∙◌, ap₂, subst, inl, inr}
use Rattle.dd_catalogue.specs.Contents.{kept_of, uids_of}
use Rattle.dd_catalogue.specs.Harmony.{harmonised}
use Rattle.dd_catalogue.proofs.Held.{kept_by_set}
use Rattle.dd_version.specs.declared.parts.Parts.{Parts}
use Rattle.dd_layout.specs.Layouts.{layout_of}
use Rattle.dd_layout.specs.Limits.{Limits}
use Rattle.dd_layout.specs.Plans.{records_of}
use Rattle.dd_layout.specs.declared.fault.PlanFault.{PlanFault}
use Rattle.dd_layout.specs.declared.fault.PlanFault.TheVariants as plans
use Rattle.dd_engine.specs.declared.basis.Basis.{Basis}
use Rattle.dd_engine.specs.declared.choice.Choice.{Choice}
use Rattle.dd_engine.specs.declared.merge.Pick.{Pick}
use Rattle.dd_engine.specs.declared.notes.ConflictingFiles.{ConflictingFiles}
use Rattle.dd_engine.specs.declared.planning.Planned.{Planned}
use Rattle.dd_engine.specs.Choosing.{label_for, refusal_for}
use Rattle.dd_engine.specs.MergeNotes.{ConflictsIn, LeavesOut, NamesPatients}
use Rattle.dd_engine.specs.MergeSteps.{ArePlaced, MergesAs, plan_fault}
use Rattle.dd_engine.specs.Merging.{IsGiven, SetListing, held_in, numbered, pick_view, stands_in, versions_in}
use Rattle.dd_engine.specs.Merging.{withdrawn_in}
use Rattle.dd_engine.specs.PatientNames.{AreNamed, with_kept_digest}
use Rattle.dd_engine.specs.Picking.{ArePicked, files_of, found_of}
use Rattle.dd_engine.specs.Planned.{IsPlanned, IsRefusedFor, IsUnplanned, filed_as_given, kept_in}
use Rattle.dd_engine.proofs.ImagePicks.{picks_told}
use Rattle.dd_engine.proofs.PlacePicks.{side_by_side}
use Rattle.dd_engine.proofs.RecordsNoted.{conflicts, leaves_out}

module _ (given : List (List ℕ)) (listings : List SetListing) (basis : Basis Pick)
    (placed : ArePlaced (numbered 0 listings) basis.versions.items basis.origins.items)
    (w : basis.withdrawn ≡ uids_of (given ++ withdrawn_in listings)) (choice : Choice) (limits : Limits) where
  kept : kept_in basis ≡ (held_in given listings).versions
  kept =
      ap₂ (λ (s : List Parts) (u : List (List ℕ)). kept_of s u) placed.versions w
      ∙ kept_by_set (versions_in (numbered 0 listings)) (given ++ withdrawn_in listings)

  pub laid : (planned : Planned Pick) → IsPlanned choice limits basis planned
      → (let h = held_in given listings in
      planned.plan ≡ layout_of (label_for choice h.versions h.withdrawn) h.versions h.withdrawn)
  laid planned is =
      is.plan ∙ ap₂ (λ (m : List Parts) (u : List (List ℕ)). layout_of (label_for choice m u) m u) kept w

  pub allowed : (planned : Planned Pick) → IsPlanned choice limits basis planned
      → (let h = held_in given listings in refusal_for choice limits h.versions h.withdrawn ≡ None)
  allowed planned is =
      sym (ap₂ (λ (m : List Parts) (u : List (List ℕ)). refusal_for choice limits m u) kept w) ∙ is.allowed

  pub picked : (planned : Planned Pick) → IsPlanned choice limits basis planned
      → (let h = held_in given listings in ArePicked (stands_in listings) (harmonised h.versions)
      (records_of (label_for choice h.versions h.withdrawn) (harmonised h.versions))
      (map (λ pick. pick_view pick) planned.picks.items))
  picked planned is =
      picks_told (λ pick. pick_view pick) (files_of (filed_as_given basis)) (harmonised (kept_in basis))
      (records_of (label_for choice (kept_in basis) basis.withdrawn) (harmonised (kept_in basis))) planned.picks.items
      is.picks
      ∙ (λ j. found_of
      (side_by_side (numbered 0 listings) basis.versions.items basis.origins.items placed.versions placed.origins j)
      (harmonised (kept j)) (records_of (label_for choice (kept j) (w j)) (harmonised (kept j))))

  pub left : (planned : Planned Pick) → IsPlanned choice limits basis planned
      → LeavesOut given listings planned.notes.left_out.items
  left planned is =
      leaves_out given listings basis.versions.items basis.origins.items (kept_in basis) planned.notes.left_out.items
      placed kept is.left

  pub named : (planned : Planned Pick) → IsPlanned choice limits basis planned
      → NamesPatients given listings planned.notes.names.items
  named planned is =
      subst (λ versions. AreNamed versions planned.notes.names.items)
      (ap₂ (λ (m l : List Parts). with_kept_digest m l) kept placed.versions) is.names

  -- ---- refusals

  refused_for : (fault : PlanFault) (conflict : Option (ConflictingFiles Pick))
      → IsRefusedFor choice limits basis fault conflict
      → (let h = held_in given listings in refusal_for choice limits h.versions h.withdrawn ≡ Some fault)
      × ConflictsIn given listings (plan_fault fault) conflict
  refused_for fault conflict is = (
    sym (ap₂ (λ (m : List Parts) (u : List (List ℕ)). refusal_for choice limits m u) kept w) ∙ is.refused,
    conflicts given listings basis.versions.items basis.origins.items (kept_in basis) fault conflict placed
        kept is.files,
  )

  something : (uids : List (List ℕ)) (sets : List SetListing)
      → ArePlaced (numbered 0 sets) basis.versions.items basis.origins.items
      → basis.withdrawn ≡ uids_of (uids ++ withdrawn_in sets)
      → (basis.versions.items ≢ []) ⊎ (basis.withdrawn ≢ []) → IsGiven uids sets
  something [] [] none u (inl some) = absurd (some none.versions)
  something [] [] none u (inr some) = absurd (some u)
  something (uid ∷ more) sets none u some = inl (λ e. cc e)
  something [] (listing ∷ more) none u some = inr (λ e. cc e)

  pub refused : (fault : PlanFault) (conflict : Option (ConflictingFiles Pick))
      → IsUnplanned choice limits basis fault conflict
      → MergesAs choice limits given listings (Err (plan_fault fault))
      × ConflictsIn given listings (plan_fault fault) conflict
  refused plans.Memory conflict is = (something given listings placed w is.0, is.1)
  refused (plans.Conflict a b) conflict is = refused_for (plans.Conflict a b) conflict is
  refused (plans.TooMany level) conflict is = refused_for (plans.TooMany level) conflict is
  refused plans.TooLarge conflict is = refused_for plans.TooLarge conflict is
