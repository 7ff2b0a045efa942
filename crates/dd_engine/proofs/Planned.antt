-- The plan of the versions that a catalogue keeps, or the fault that refuses it.
use Rattle.std.specs.Prelude.{◌≡◌, ◌≢◌, ◌⊎◌, List, [], ◌∷◌, length, map, Option, None, Some}
use Rattle.std.specs.List.{zip}
use Rattle.std.proofs.Common.{refl, sym, ◌∙◌, ap, subst, inl, inr}
use Rattle.std.proofs.lemmas.List.{nil_from_length}
use Rattle.std.proofs.lemmas.Option.{none-some}
use Rattle.dd_catalogue.specs.Changes.{with_changes}
use Rattle.dd_catalogue.specs.Contents.{Contents, kept_of, nothing}
use Rattle.dd_catalogue.specs.Harmony.{harmonised}
use Rattle.dd_version.specs.declared.parts.Parts.{Parts}
use Rattle.dd_layout.specs.Layouts.{Layout, layout_of}
use Rattle.dd_layout.specs.Limits.{Limits}
use Rattle.dd_layout.specs.Plans.{records_of}
use Rattle.dd_layout.specs.declared.fault.PlanFault.{PlanFault}
use Rattle.dd_layout.specs.declared.fault.PlanFault.TheVariants as plans
use Rattle.dd_engine.specs.declared.basis.Basis.{Basis}
use Rattle.dd_engine.specs.declared.choice.Choice.{Choice}
use Rattle.dd_engine.specs.declared.findings.Findings.{Findings}
use Rattle.dd_engine.specs.declared.notes.ConflictingFiles.{ConflictingFiles}
use Rattle.dd_engine.specs.Choosing.{label_for, refusal_for}
use Rattle.dd_engine.specs.Picking.{AreHeld, ArePicked, file_of, files_of, found, taken_of}
use Rattle.dd_engine.specs.Planned.{AreFindings, Finds, IsUnfound, IsUnplanned, filed_as_given, kept_in}
use Rattle.dd_engine.proofs.BothFound.{named_conflict}
use Rattle.dd_engine.proofs.InHarmony.{conflict_first}
use Rattle.dd_engine.proofs.KeptFiles.{files_kept, many_files, picked}
use Rattle.dd_engine.proofs.PlansRefused.{plan_apart}

module _ {T : Type 0} (basis : Basis T) (findings : Findings T) (harmony : Contents) (are : AreFindings basis findings)
    (is : harmony ≡ record { versions = with_changes findings.changes (kept_in basis); withdrawn = basis.withdrawn })
  where
    pub in_harmony : harmony.versions ≡ harmonised (kept_in basis)
    in_harmony = ap (λ (h : Contents). h.versions) is ∙ are.harmony

    many : length findings.files.items ≡ length harmony.versions
    many =
        many_files (λ v. found (files_of (filed_as_given basis)) (file_of v)) findings.files.items (kept_in basis)
        are.files
        ∙ sym (ap length in_harmony)

    pub many_planned : (choice : Choice) (plan : Layout)
        → plan ≡ layout_of (label_for choice (kept_in basis) harmony.withdrawn) (kept_in basis) harmony.withdrawn
        → length findings.files.items ≡ length plan.versions
    many_planned choice plan p = many ∙ ap length (in_harmony ∙ sym (ap (λ (l : Layout). l.versions) p))

    pub plan_is : (choice : Choice) (plan : Layout)
        → plan ≡ layout_of (label_for choice (kept_in basis) harmony.withdrawn) (kept_in basis) harmony.withdrawn
        → plan ≡ layout_of (label_for choice (kept_in basis) basis.withdrawn) (kept_in basis) basis.withdrawn
    plan_is choice plan p =
        p
        ∙ ap (λ (h : Contents). layout_of (label_for choice (kept_in basis) h.withdrawn) (kept_in basis) h.withdrawn) is

    pub refusal_is : (choice : Choice) (limits : Limits)
        → refusal_for choice limits (kept_in basis) basis.withdrawn
        ≡ refusal_for choice limits (kept_in basis) harmony.withdrawn
    refusal_is choice limits = sym (ap (λ (h : Contents). refusal_for choice limits (kept_in basis) h.withdrawn) is)

    pub picks_are : (choice : Choice) (plan : Layout) (picks : List T)
        → plan ≡ layout_of (label_for choice (kept_in basis) harmony.withdrawn) (kept_in basis) harmony.withdrawn
        → map (λ pick. Some pick) picks ≡ taken_of findings.files.items (records_of plan.label plan.versions)
        → ArePicked (files_of (filed_as_given basis)) (harmonised (kept_in basis))
        (records_of (label_for choice (kept_in basis) basis.withdrawn) (harmonised (kept_in basis))) picks
    picks_are choice plan picks p taken =
        picked (files_of (filed_as_given basis)) findings.files.items (kept_in basis)
        (records_of (label_for choice (kept_in basis) basis.withdrawn) (harmonised (kept_in basis))) picks are.files
        (taken
        ∙ ap (λ (l : Layout). taken_of findings.files.items (records_of l.label l.versions)) (plan_is choice plan p))

    -- ---- refusals

    either_given : {A B : Type 0} (xs : List A) (ys : List B) → (xs ≡ [] → ys ≡ [] → ⊥) → (xs ≢ []) ⊎ (ys ≢ [])
    either_given [] [] apart = absurd (apart refl refl)
    either_given (x ∷ xs) ys apart = inl (λ e. cc e)
    either_given [] (y ∷ ys) apart = inr (λ e. cc e)

    something : harmony ≢ nothing → (basis.versions.items ≢ []) ⊎ (basis.withdrawn ≢ [])
    something some = either_given basis.versions.items basis.withdrawn (λ v w.
        let empty : harmonised (kept_in basis) ≡ [] = ap (λ s. harmonised (kept_of s basis.withdrawn)) v in
        some (is ∙ (λ j. record { versions = (are.harmony ∙ empty) j; withdrawn = w j })))

    pub unplanned : (choice : Choice) (limits : Limits) (fault : PlanFault)
        → ((fault ≡ plans.Memory) × (harmony ≢ nothing))
        ⊎ (refusal_for choice limits (kept_in basis) harmony.withdrawn ≡ Some fault)
        → IsUnplanned choice limits basis fault None
    unplanned choice limits plans.Memory (inl lacks) = (something lacks.1, refl)
    unplanned choice limits (plans.Conflict a b) (inl lacks) = absurd (cc lacks.0)
    unplanned choice limits (plans.TooMany level) (inl lacks) = absurd (cc lacks.0)
    unplanned choice limits plans.TooLarge (inl lacks) = absurd (cc lacks.0)
    unplanned choice limits plans.Memory (inr refused) =
        absurd (plan_apart choice limits (kept_in basis) harmony.withdrawn refused)
    unplanned choice limits (plans.Conflict a b) (inr refused) =
        absurd (none-some (a, b)
        (sym are.none ∙ named_conflict choice limits (kept_in basis) harmony.withdrawn a b refused))
    unplanned choice limits (plans.TooMany level) (inr refused) =
        record { refused = refusal_is choice limits ∙ refused; files = refl }
    unplanned choice limits plans.TooLarge (inr refused) =
        record { refused = refusal_is choice limits ∙ refused; files = refl }

    -- memory was refused for the picks
    pub unpicked : findings.files.items ≢ [] → (basis.versions.items ≢ []) ⊎ (basis.withdrawn ≢ [])
    unpicked some = inl (λ none. some (nil_from_length findings.files.items
        (many_files (λ v. found (files_of (filed_as_given basis)) (file_of v)) findings.files.items (kept_in basis)
        are.files
        ∙ ap (λ s. length (harmonised (kept_of s basis.withdrawn))) none)))

-- each kept version has a file
pub files_in : {T : Type 0} (basis : Basis T) (versions m : List Parts) (origins : List T)
    → versions ≡ basis.versions.items → origins ≡ basis.origins.items
    → length basis.origins.items ≡ length basis.versions.items → m ≡ kept_of versions basis.withdrawn
    → AreHeld (map (λ file. file.1) (files_of (zip origins versions))) m
files_in basis versions m origins v o many is =
    files_kept origins versions m basis.withdrawn (ap length o ∙ many ∙ sym (ap length v)) is

-- what is found of equal lists
pub findings_are : {T : Type 0} (basis : Basis T) (versions m : List Parts) (origins : List T) (findings : Findings T)
    → versions ≡ basis.versions.items → origins ≡ basis.origins.items → m ≡ kept_of versions basis.withdrawn
    → Finds m origins versions findings → AreFindings basis findings
findings_are {T} basis versions m origins findings v o is are =
    subst (λ (l : List Parts). Finds l basis.origins.items basis.versions.items findings)
    (is ∙ ap (λ s. kept_of s basis.withdrawn) v)
    (subst (λ (l : List Parts). Finds m basis.origins.items l findings) v
    (subst (λ (l : List T). Finds m l versions findings) o are))

-- nothing was found
pub unfound : {T : Type 0} (basis : Basis T) (choice : Choice) (limits : Limits) (fault : PlanFault)
    (conflict : Option (ConflictingFiles T)) → IsUnfound basis fault conflict
    → IsUnplanned choice limits basis fault conflict
unfound basis choice limits (plans.Conflict a b) conflict h =
    record { refused = conflict_first choice limits (kept_in basis) basis.withdrawn a b h.0; files = h.1 }
unfound basis choice limits (plans.TooMany level) conflict h = absurd h
unfound basis choice limits plans.TooLarge conflict h = absurd h
unfound basis choice limits plans.Memory conflict h = (inl h.0, h.1)
