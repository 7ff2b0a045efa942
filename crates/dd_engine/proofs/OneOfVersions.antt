-- Sources with the same versions have one best of them, and so one plan.
use Rattle.std.proofs.Common.{◌≡◌, ◌<◌, ◌≤◌, ℕ, zero, suc, List, [], ◌∷◌, length, Option, Some, None, Result, Ok, Err}
use Rattle.std.proofs.Common.{refl, sym, ap, subst, inl, inr, ◌∙◌, arith}
use Rattle.std.proofs.lemmas.Option.{slice_get_cases, slice_get_within}
use Rattle.std.specs.Prelude.{◌↔◌, Contains, IfErr, IfSome, IsSome, slice_get}
use Rattle.dd_catalogue.specs.Best.{SameMembers}
use Rattle.dd_catalogue.specs.Versions.{versions_ordered}
use Rattle.dd_catalogue.proofs.BestMembers.{best_is_best, same_best}
use Rattle.dd_catalogue.proofs.Members.{Member, contained, member_of}
use Rattle.dd_dir.specs.Directories.{directory_of}
use Rattle.dd_keys.specs.Answers.{Answers}
use Rattle.dd_keys.specs.Faults.{IsWantOfMemory, SaysMemory}
use Rattle.dd_keys.specs.Versions.{IsVersion}
use Rattle.dd_keys.specs.declared.fault.KeyFault.{KeyFault}
use Rattle.dd_keys.specs.declared.fault.KeyFault.TheVariants.{File, Memory}
use Rattle.dd_keys.specs.Sources.{Answer, AnswersSource, IsOfSource}
use Rattle.dd_version.specs.declared.parts.Parts.{Parts}
use Rattle.dd_part10.specs.declared.fault.FileFault.TheVariants.{Meta, Set}
use Rattle.dd_part10.specs.Memory.{SetWants}
use Rattle.dd_grammar.specs.declared.fault.SetFault.TheVariants as parsing
use Rattle.dd_layout.specs.declared.fault.PlanFault.{PlanFault}
use Rattle.dd_layout.specs.Limits.{Limits}
use Rattle.dd_layout.specs.Layouts.{Layout, layout_of}
use Rattle.dd_engine.specs.declared.choice.Choice.{Choice}
use Rattle.dd_engine.specs.declared.engine.Indexed.{Indexed}
use Rattle.dd_sources.specs.declared.engine_fault.EngineFault.{EngineFault}
use Rattle.dd_sources.specs.declared.engine_fault.EngineFault.TheVariants.{Plan}
use Rattle.dd_engine.specs.Choosing.{label_for, refusal_for}
use Rattle.dd_engine.specs.Indexed.{IsIndexed}
use Rattle.dd_sources.specs.Indexing.{accepted, accepted_from, best_of_sources, versions_of}
use Rattle.dd_engine.specs.SameVersions.{Agree, AreSamePlans, AreKnown, IndexesKnown, IsVersionThere}
use Rattle.dd_sources.specs.Supply.{AreAnswers, IsAnswer}

-- ---- the versions among answers

kept_at : (at : ℕ) (answers : List Answer) (version : Parts) → Member version (versions_of (accepted_from at answers))
    → (k : ℕ) × (slice_get answers k ≡ Some (Ok version))
kept_at at [] version held = absurd held
kept_at at (Ok one ∷ answers) version (inl is) = (zero, ap (λ (v : Parts). Some (Ok v)) is)
kept_at at (Ok one ∷ answers) version (inr later) =
    let there = kept_at (suc at) answers version later in (suc there.0, there.1)
kept_at at (Err fault ∷ answers) version held =
    let there = kept_at (suc at) answers version held in (suc there.0, there.1)

kept_of : (at k : ℕ) (answers : List Answer) (version : Parts) → slice_get answers k ≡ Some (Ok version)
    → Member version (versions_of (accepted_from at answers))
kept_of at k [] version is = absurd (cc)
kept_of at zero (Ok one ∷ answers) version is = inl (cc)
kept_of at zero (Err fault ∷ answers) version is = absurd (cc)
kept_of at (suc k) (Ok one ∷ answers) version is = inr (kept_of (suc at) k answers version is)
kept_of at (suc k) (Err fault ∷ answers) version is = kept_of (suc at) k answers version is

-- ---- the answer of a source whose bytes are known

says_memory : (file : List ℕ) (fault : KeyFault) → IsWantOfMemory SetWants file fault → SaysMemory fault
says_memory file Memory want = tt
says_memory file (File (Meta parsing.Memory)) want = tt
says_memory file (File (Set parsing.Memory)) want = tt
says_memory file fault want = absurd want

version_is : (file : List ℕ) (version : Parts) (answer : Answer) → IfErr answer IsOfSource → Answers file answer
    → IsVersion file version → answer ≡ Ok version
version_is file version (Ok parts) settled answers right = ap (λ (v : Parts). Ok v) (answers.only version right)
version_is file version (Err fault) settled answers right =
    absurd (settled.1 (says_memory file fault (answers.only version right)))

short_file : (limit : ℕ) (file : List ℕ) (version : Parts) → AnswersSource limit file (Ok version)
    → length file ≤ limit
short_file limit file version answers =
    let no : limit < length file → ⊥ = λ long. (let e = answers.long.1 long in absurd (cc)) in omega (arith, no)

there_of : (limit at sources : ℕ) (contents : ℕ → Option (List ℕ)) (version : Parts) (o : Option (List ℕ))
    → contents at ≡ o → IsSome o → at < sources → IfSome o (λ file. AnswersSource limit file (Ok version))
    → IsVersionThere limit contents sources version
there_of limit at sources contents version None is some within right = absurd (cc)
there_of limit at sources contents version (Some file) is some within right =
    let short = short_file limit file version right in
    record {
      at = at;
      within = within;
      file = file;
      bytes = is;
      short = short;
      right = (right.fits short).found;
    }

module _ (limit sources : ℕ) (contents : ℕ → Option (List ℕ)) (answers : List Answer) (many : length answers ≡ sources)
    (right : AreAnswers limit contents answers) where
  answer_at : (at : ℕ) (answer : Answer) → slice_get answers at ≡ Some answer → IsAnswer limit (contents at) answer
  answer_at at answer is =
      subst (λ (o : Option Answer). IfSome o (IsAnswer limit (contents at))) is (right.each at)

  pub told_of_kept : (version : Parts) → AreKnown contents sources → Member version (versions_of (accepted answers))
      → IsVersionThere limit contents sources version
  told_of_kept version all held =
      let there = kept_at 0 answers version held in
      let within : there.0 < sources =
      subst (λ (n : ℕ). there.0 < n) many (slice_get_within answers there.0 (Ok version) there.1) in
      there_of limit there.0 sources contents version (contents there.0) refl (all there.0 within) within
      (answer_at there.0 (Ok version) there.1).right

  -- the answer for a source with a version is this version
  answer_is : (version : Parts) (there : IsVersionThere limit contents sources version) (answer : Answer)
      → slice_get answers there.at ≡ Some answer → answer ≡ Ok version
  answer_is version there answer is =
      let its = answer_at there.at answer is in
      let file : AnswersSource limit there.file answer =
      subst (λ (o : Option (List ℕ)). IfSome o (λ file. AnswersSource limit file answer)) there.bytes its.right in
      version_is there.file version answer its.settled (file.fits there.short) there.right

  pub kept_of_told : (version : Parts) → IsVersionThere limit contents sources version
      → Member version (versions_of (accepted answers))
  kept_of_told version there = elim (slice_get_cases answers there.at).1 [
    | inl one ↦ kept_of 0 there.at answers version
        (one.2 ∙ ap (λ (a : Answer). Some a) (answer_is version there one.0 one.2))
    | inr none ↦ absurd (omega (arith, many, there.within, none.0))
  ]

-- ---- one plan

members_over : (limit sources others : ℕ) (contents other : ℕ → Option (List ℕ)) (one two : List Answer)
    → length one ≡ sources → length two ≡ others → AreAnswers limit contents one → AreAnswers limit other two
    → AreKnown contents sources
    → ((version : Parts) → IsVersionThere limit contents sources version → IsVersionThere limit other others version)
    → (version : Parts) → Contains (versions_of (accepted one)) version → Contains (versions_of (accepted two)) version
members_over limit sources others contents other one two many few right right_too all over version held =
    contained version (versions_of (accepted two))
    (kept_of_told limit others other two few right_too version
    (over version (told_of_kept limit sources contents one many right version all
    (member_of version (versions_of (accepted one)) held))))

-- both have one best, since they have the same versions
one_best : (limit sources others : ℕ) (contents other : ℕ → Option (List ℕ)) (one two : List Answer)
    → length one ≡ sources → length two ≡ others → AreAnswers limit contents one → AreAnswers limit other two
    → AreKnown contents sources → AreKnown other others
    → ((version : Parts) → IsVersionThere limit contents sources version ↔ IsVersionThere limit other others version)
    → best_of_sources (accepted one) ≡ best_of_sources (accepted two)
one_best limit sources others contents other one two many few right right_too all each same =
    let members : SameMembers (versions_of (accepted one)) (versions_of (accepted two)) = λ version. (
      members_over limit sources others contents other one two many few right right_too all (λ v. (same v).0) version,
      members_over limit others sources other contents two one few many right_too right each (λ v. (same v).1) version,
    ) in
    same_best versions_ordered (versions_of (accepted one)) (versions_of (accepted two)) _ _ members
    (best_is_best versions_ordered (versions_of (accepted one)))
    (best_is_best versions_ordered (versions_of (accepted two)))

module _ (choice : Choice) (limits : Limits) where
  plans_agree : (one two : List Answer) (first second : Indexed)
      → best_of_sources (accepted one) ≡ best_of_sources (accepted two) → IsIndexed choice limits one first
      → IsIndexed choice limits two second → AreSamePlans first.plan second.plan
  plans_agree one two first second best is also =
      let plans : first.plan ≡ second.plan =
      is.plan ∙ ap (λ (m : List Parts). layout_of (label_for choice m []) m []) best ∙ sym also.plan in
      record { plan = plans; directory = ap (λ (l : Layout). directory_of l.label l.versions l.withdrawn) plans }

  refusals_agree : (one two : List Answer) (first second : Option PlanFault)
      → best_of_sources (accepted one) ≡ best_of_sources (accepted two)
      → refusal_for choice limits (best_of_sources (accepted one)) [] ≡ first
      → refusal_for choice limits (best_of_sources (accepted two)) [] ≡ second → first ≡ second
  refusals_agree one two first second best is also =
      sym is ∙ ap (λ (m : List Parts). refusal_for choice limits m []) best ∙ also

  pub agree : (limit : ℕ) (contents other : ℕ → Option (List ℕ)) (sources others : ℕ)
      (first second : Result Indexed EngineFault) → IndexesKnown choice limits limit contents sources first
      → IndexesKnown choice limits limit other others second
      → ((version : Parts) → IsVersionThere limit contents sources version ↔ IsVersionThere limit other others version)
      → Agree first second
  agree limit contents other sources others (Ok first) (Ok second) one two same =
      let a = one.answers in
      let b = two.answers in
      plans_agree a.0 b.0 first second
      (one_best limit sources others contents other a.0 b.0 a.1 b.1 a.2 b.2 one.known two.known same) a.3 b.3
  agree limit contents other sources others (Ok first) (Err (Plan fault)) one two same =
      let a = one.answers in
      let b = two.answers in
      let is : None ≡ Some fault = refusals_agree a.0 b.0 None (Some fault)
      (one_best limit sources others contents other a.0 b.0 a.1 b.1 a.2 b.2 one.known two.known same) a.3.allowed b.3 in
      absurd (cc)
  agree limit contents other sources others (Err (Plan fault)) (Ok second) one two same =
      let a = one.answers in
      let b = two.answers in
      let is : Some fault ≡ None = refusals_agree a.0 b.0 (Some fault) None
      (one_best limit sources others contents other a.0 b.0 a.1 b.1 a.2 b.2 one.known two.known same) a.3 b.3.allowed in
      absurd (cc)
  agree limit contents other sources others (Err (Plan fault)) (Err (Plan also)) one two same =
      let a = one.answers in
      let b = two.answers in
      let is : Some fault ≡ Some also = refusals_agree a.0 b.0 (Some fault) (Some also)
      (one_best limit sources others contents other a.0 b.0 a.1 b.1 a.2 b.2 one.known two.known same) a.3 b.3 in
      (cc)
  agree limit contents other sources others first second one two same = tt
