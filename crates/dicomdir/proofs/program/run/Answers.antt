use Rattle.std.proofs.Common.{◌≤◌, ℕ, arith, inl, inr, subst, sym}
use Rattle.std.specs.Prelude.{◌⊎◌}
use Rattle.dd_files.specs.Keeping.{IfSaid}
use Rattle.dd_line.specs.Line.{HasBadLimit, HasBadName, IsCheck, IsReading, LacksSources}
use Rattle.dd_line.specs.Requests.{IsRequested}
use Rattle.dd_line.proofs.RequestLemmas.{given_bad, requested_bad, requested_check, requested_reads}
use Rattle.dicomdir.specs.DryRun.{HasDryRun, HasKeepGoing}
use Rattle.dd_inputs.specs.EmptyPaths.{HasEmptyPath}
use Rattle.dd_inspecting.specs.Inspecting.{ChecksSet, ListsSet}
use Rattle.dicomdir.specs.InspectingLines.{IsList, comparison_in, first_path, form_in, style_in}
use Rattle.dicomdir.specs.Last.{MakesLastLine}
use Rattle.dicomdir.specs.Lines.{IndexesLine, IsIndex, IsMerge, IsPublish, IsStage, IsWithdraw, MergesLine}
use Rattle.dicomdir.specs.Lines.{IndexSays, MergeSays, PublishSays, PublishesLine, StagesLine, WithdrawSays}
use Rattle.dicomdir.specs.Lines.{WithdrawsLine}
use Rattle.dicomdir.specs.Done.{IsDone}
use Rattle.dicomdir.specs.Words.{IsTaken, line_of}
use Rattle.dicomdir.proofs.DryRuns.{given_keep_going, requested_dry, requested_work}
use Rattle.dicomdir.proofs.EmptyWords.{requested_empty}
use Rattle.dicomdir.proofs.InspectedLines.{requested_checks, requested_lists}
use Rattle.dicomdir.proofs.LinesLast.{last_line, unmade_line}
use Rattle.dicomdir.proofs.LinesMade.{given_index, given_merge, given_publish, given_stage, given_withdraw}
use Rattle.dicomdir.proofs.LinesMade.{requested_publish}
use Rattle.dicomdir.proofs.LinesSaid.{index_says, merge_says, publish_says, withdraw_says}
use Rattle.dicomdir.proofs.LinesRefused.{taken_lacks, taken_mistake}
use Rattle.dicomdir.proofs.program.run.Goals as goal

-- ---- a line that is read

pub returns-in-Ok-clause-findings : goal.returns-in-Ok-clause-findings
returns-in-Ok-clause-findings g c = λ is. elim (c.run_request.ensures.status.findings is) [
  | inl check ↦ inl (subst (λ words. IsCheck (line_of words)) c.as_slice.ensures.value
      (requested_check c.in-Ok.request _ c.in-Ok.ensures.request check))
  | inr other ↦ elim other [
    | inl keeps ↦ inr (inl (subst (λ words. HasKeepGoing (line_of words)) c.as_slice.ensures.value
        (given_keep_going c.in-Ok.request _ c.in-Ok.ensures.request keeps)))
    | inr publish ↦ inr (inr (subst (λ words. IsPublish (line_of words)) c.as_slice.ensures.value
        (requested_publish c.in-Ok.request _ c.in-Ok.ensures.request publish)))
  ]
]

pub returns-in-Ok-clause-words : goal.returns-in-Ok-clause-words
returns-in-Ok-clause-words g c = λ is _.
    inl (subst (λ words. HasBadName (line_of words)) c.as_slice.ensures.value
    (requested_bad c.in-Ok.request _ c.in-Ok.ensures.request (c.run_request.ensures.status.bad is)))

pub returns-in-Ok-clause-names : goal.returns-in-Ok-clause-names
returns-in-Ok-clause-names g c = λ is _ bad.
    c.run_request.ensures.status.good is (given_bad c.in-Ok.request _ c.in-Ok.ensures.request
    (subst (λ words. HasBadName (line_of words)) (sym c.as_slice.ensures.value) bad))

pub returns-in-Ok-clause-limit : goal.returns-in-Ok-clause-limit
returns-in-Ok-clause-limit g c = λ _ wrong.
    absurd (c.in-Ok.ensures.kinds.1
    (subst (λ words. HasBadLimit (line_of words)) (sym c.as_slice.ensures.value) wrong))

pub returns-in-Ok-clause-sources : goal.returns-in-Ok-clause-sources
returns-in-Ok-clause-sources g c = λ _ lacks.
    absurd (c.in-Ok.ensures.kinds.2
    (subst (λ words. LacksSources (line_of words)) (sym c.as_slice.ensures.value) lacks))

pub returns-in-Ok-clause-empty : goal.returns-in-Ok-clause-empty
returns-in-Ok-clause-empty g c = λ _ has.
    c.run_request.ensures.empty (requested_empty c.in-Ok.request _ c.in-Ok.ensures.request
    (subst (λ words. HasEmptyPath (line_of words)) (sym c.as_slice.ensures.value) has))

pub returns-in-Ok-clause-reading : goal.returns-in-Ok-clause-reading
returns-in-Ok-clause-reading g c = λ _ reads.
    c.run_request.ensures.kept ((requested_reads c.in-Ok.request _ c.in-Ok.ensures.request).1
    (subst (λ words. IsReading (line_of words)) (sym c.as_slice.ensures.value) reads))

pub returns-in-Ok-clause-dry : goal.returns-in-Ok-clause-dry
returns-in-Ok-clause-dry g c = λ _ has.
    c.run_request.ensures.dry (requested_dry c.in-Ok.request _ c.in-Ok.ensures.request
    (subst (λ words. HasDryRun (line_of words)) (sym c.as_slice.ensures.value) has))

pub returns-in-Ok-clause-cuts : goal.returns-in-Ok-clause-cuts
returns-in-Ok-clause-cuts g c = λ _.
    subst (λ words. IfSaid (MakesLastLine (line_of words)) (g.F.Files.held c.args.files.now)
    (g.F.Files.held c.run_request.new.files)) c.as_slice.ensures.value
    (last_line c.in-Ok.request (line_of c.as_slice.result.now) _ _ c.in-Ok.ensures.request c.run_request.ensures.last)

pub returns-in-Ok-clause-indexes : goal.returns-in-Ok-clause-indexes
returns-in-Ok-clause-indexes g c = λ done _ names works.
    let found = line_of c.as_slice.result.now in
    let read = c.in-Ok.ensures.request in
    let works = subst (λ words. ¬ HasDryRun (line_of words)) (sym c.as_slice.ensures.value) works in
    let names = subst (λ words. IsIndex (line_of words)) (sym c.as_slice.ensures.value) names in
    subst (λ words. IndexesLine (line_of words) c.run_request.result (g.F.Files.held c.args.files.now)
    (g.F.Files.held c.run_request.new.files)) c.as_slice.ensures.value
    (given_index c.in-Ok.request found _ _ _ read names
    (c.run_request.ensures.made (requested_work c.in-Ok.request found read works) done))

pub returns-in-Ok-clause-merges : goal.returns-in-Ok-clause-merges
returns-in-Ok-clause-merges g c = λ done _ names works.
    let found = line_of c.as_slice.result.now in
    let read = c.in-Ok.ensures.request in
    let works = subst (λ words. ¬ HasDryRun (line_of words)) (sym c.as_slice.ensures.value) works in
    let names = subst (λ words. IsMerge (line_of words)) (sym c.as_slice.ensures.value) names in
    subst (λ words. MergesLine (line_of words) (g.F.Files.held c.args.files.now)
    (g.F.Files.held c.run_request.new.files)) c.as_slice.ensures.value
    (given_merge c.in-Ok.request found _ _ _ read names
    (c.run_request.ensures.made (requested_work c.in-Ok.request found read works) (inl done)))

pub returns-in-Ok-clause-withdraws : goal.returns-in-Ok-clause-withdraws
returns-in-Ok-clause-withdraws g c = λ done _ names works.
    let found = line_of c.as_slice.result.now in
    let read = c.in-Ok.ensures.request in
    let works = subst (λ words. ¬ HasDryRun (line_of words)) (sym c.as_slice.ensures.value) works in
    let names = subst (λ words. IsWithdraw (line_of words)) (sym c.as_slice.ensures.value) names in
    subst (λ words. WithdrawsLine (line_of words) (g.F.Files.held c.args.files.now)
    (g.F.Files.held c.run_request.new.files)) c.as_slice.ensures.value
    (given_withdraw c.in-Ok.request found _ _ _ read names
    (c.run_request.ensures.made (requested_work c.in-Ok.request found read works) (inl done)))

pub returns-in-Ok-clause-publishes : goal.returns-in-Ok-clause-publishes
returns-in-Ok-clause-publishes g c = λ done _ names works.
    let found = line_of c.as_slice.result.now in
    let read = c.in-Ok.ensures.request in
    let works = subst (λ words. ¬ HasDryRun (line_of words)) (sym c.as_slice.ensures.value) works in
    let names = subst (λ words. IsPublish (line_of words)) (sym c.as_slice.ensures.value) names in
    subst (λ words. PublishesLine (line_of words) c.run_request.result (g.F.Files.held c.args.files.now)
    (g.F.Files.held c.run_request.new.files)) c.as_slice.ensures.value
    (given_publish c.in-Ok.request found _ _ _ read names
    (c.run_request.ensures.made (requested_work c.in-Ok.request found read works) done))

pub returns-in-Ok-clause-stages : goal.returns-in-Ok-clause-stages
returns-in-Ok-clause-stages g c = λ done _ names.
    let names = subst (λ words. IsStage (line_of words)) (sym c.as_slice.ensures.value) names in
    subst (λ words. StagesLine g.O.Write (line_of words) c.run_request.result (g.F.Files.held c.args.files.now)
    (g.F.Files.held c.run_request.new.files) c.args.out.now c.run_request.new.out) c.as_slice.ensures.value
    (given_stage g.O.Write c.in-Ok.request (line_of c.as_slice.result.now) _ _ _ _ _ c.in-Ok.ensures.request names
    (c.run_request.ensures.staged done))

pub returns-in-Ok-clause-index_says : goal.returns-in-Ok-clause-index_says
returns-in-Ok-clause-index_says g c = λ done _ names.
    let names = subst (λ words. IsIndex (line_of words)) (sym c.as_slice.ensures.value) names in
    subst (λ words. IndexSays g.O.Write (line_of words) c.run_request.result (g.F.Files.held c.args.files.now)
    c.args.out.now c.run_request.new.out) c.as_slice.ensures.value
    (index_says g.O.Write c.in-Ok.request (line_of c.as_slice.result.now) _ _ _ _ c.in-Ok.ensures.request names
    (c.run_request.ensures.says done))

pub returns-in-Ok-clause-merge_says : goal.returns-in-Ok-clause-merge_says
returns-in-Ok-clause-merge_says g c = λ done _ names.
    let names = subst (λ words. IsMerge (line_of words)) (sym c.as_slice.ensures.value) names in
    subst (λ words. MergeSays g.O.Write (line_of words) (g.F.Files.held c.args.files.now)
    c.args.out.now c.run_request.new.out) c.as_slice.ensures.value
    (merge_says g.O.Write c.in-Ok.request (line_of c.as_slice.result.now) _ _ _ _ c.in-Ok.ensures.request names
    (c.run_request.ensures.says (inl done)))

pub returns-in-Ok-clause-withdraw_says : goal.returns-in-Ok-clause-withdraw_says
returns-in-Ok-clause-withdraw_says g c = λ done _ names.
    let names = subst (λ words. IsWithdraw (line_of words)) (sym c.as_slice.ensures.value) names in
    subst (λ words. WithdrawSays g.O.Write (line_of words) (g.F.Files.held c.args.files.now)
    c.args.out.now c.run_request.new.out) c.as_slice.ensures.value
    (withdraw_says g.O.Write c.in-Ok.request (line_of c.as_slice.result.now) _ _ _ _ c.in-Ok.ensures.request names
    (c.run_request.ensures.says (inl done)))

pub returns-in-Ok-clause-publish_says : goal.returns-in-Ok-clause-publish_says
returns-in-Ok-clause-publish_says g c = λ done _ names.
    let names = subst (λ words. IsPublish (line_of words)) (sym c.as_slice.ensures.value) names in
    subst (λ words. PublishSays g.O.Write (line_of words) c.run_request.result (g.F.Files.held c.args.files.now)
    c.args.out.now c.run_request.new.out) c.as_slice.ensures.value
    (publish_says g.O.Write c.in-Ok.request (line_of c.as_slice.result.now) _ _ _ _ c.in-Ok.ensures.request names
    (c.run_request.ensures.says done))

pub returns-in-Ok-clause-lists : goal.returns-in-Ok-clause-lists
returns-in-Ok-clause-lists g c = λ is _ lists.
    subst (λ words. ListsSet g.O.Write g.F.FoundPaths.is_shown (style_in (line_of words)) (form_in (line_of words)) (first_path (line_of words))
    (g.F.Files.held c.args.files.now) c.run_request.result c.args.out.now c.run_request.new.out)
    c.as_slice.ensures.value
    (requested_lists g.F.In.Read g.O.Write g.F.FoundPaths.is_shown _ _ _ _ _ _ c.in-Ok.request _ c.in-Ok.ensures.request
    (subst (λ words. IsList (line_of words)) (sym c.as_slice.ensures.value) lists)
    (c.run_request.ensures.printed (inl is)))

pub returns-in-Ok-clause-checks : goal.returns-in-Ok-clause-checks
returns-in-Ok-clause-checks g c = λ is _ checks.
    subst (λ words. ChecksSet g.F.In.Read (first_path (line_of words)) (g.F.Files.held c.args.files.now)
    (comparison_in (line_of words)) (style_in (line_of words)) g.O.Write c.run_request.result
    (g.F.Files.refusals c.args.files.now) (g.F.Files.refusals c.run_request.new.files) c.args.out.now c.run_request.new.out)
    c.as_slice.ensures.value
    (requested_checks g.F.In.Read g.O.Write g.F.FoundPaths.is_shown _ _ _ _ _ _ c.in-Ok.request _ c.in-Ok.ensures.request
    (subst (λ words. IsCheck (line_of words)) (sym c.as_slice.ensures.value) checks)
    (c.run_request.ensures.printed is))

-- ---- a line that is refused

refused_line : (status : ℕ) → IsDone status → 1 ≤ status → status ≤ 2 → ⊥
refused_line status (inl zero) least most = omega (arith, zero, least)
refused_line status (inr three) least most = omega (arith, three, most)

pub returns-clause-words : goal.returns-clause-words
returns-clause-words g c = λ is taken.
    let still = subst (λ words. IsTaken words) (sym c.as_slice.ensures.value) taken in
    subst (λ words. HasBadName (line_of words) ⊎ (HasBadLimit (line_of words) ⊎ LacksSources (line_of words))) c.as_slice.ensures.value
    (taken_lacks c.in-Err.fault c.refuse_line.result _ _ _ (c.in-Err.ensures.passes still)
    (λ memory. (c.refuse_line.ensures.memory memory).0) is)

pub returns-clause-names : goal.returns-clause-names
returns-clause-names g c = λ is taken _.
    let still = subst (λ words. IsTaken words) (sym c.as_slice.ensures.value) taken in
    let amiss = c.refuse_line.ensures.mistake (taken_mistake c.in-Err.fault _ _ (c.in-Err.ensures.passes still)) in
    omega (arith, is, amiss.0)

pub returns-clause-limit : goal.returns-clause-limit
returns-clause-limit g c = λ taken _.
    let still = subst (λ words. IsTaken words) (sym c.as_slice.ensures.value) taken in
    let amiss = c.refuse_line.ensures.mistake (taken_mistake c.in-Err.fault _ _ (c.in-Err.ensures.passes still)) in
    (amiss.0, cc, amiss.1)

pub returns-clause-sources : goal.returns-clause-sources
returns-clause-sources g c = λ taken _.
    let still = subst (λ words. IsTaken words) (sym c.as_slice.ensures.value) taken in
    let amiss = c.refuse_line.ensures.mistake (taken_mistake c.in-Err.fault _ _ (c.in-Err.ensures.passes still)) in
    (amiss.0, cc, amiss.1)

pub returns-clause-empty : goal.returns-clause-empty
returns-clause-empty g c = λ taken _.
    let still = subst (λ words. IsTaken words) (sym c.as_slice.ensures.value) taken in
    let amiss = c.refuse_line.ensures.mistake (taken_mistake c.in-Err.fault _ _ (c.in-Err.ensures.passes still)) in
    (amiss.0, cc, amiss.1)

pub returns-clause-cuts : goal.returns-clause-cuts
returns-clause-cuts g c = λ _. unmade_line (line_of c.args.words.items) (g.F.Files.held c.args.files.now)

pub returns-clause-indexes : goal.returns-clause-indexes
returns-clause-indexes g c = λ is taken _ _.
    let still = subst (λ words. IsTaken words) (sym c.as_slice.ensures.value) taken in
    let amiss = c.refuse_line.ensures.mistake (taken_mistake c.in-Err.fault _ _ (c.in-Err.ensures.passes still)) in
    absurd {A = IndexesLine (line_of c.args.words.items) c.refuse_line.result (g.F.Files.held c.args.files.now)
    (g.F.Files.held c.args.files.now)} (refused_line c.refuse_line.result is amiss.0 c.refuse_line.ensures.status)

pub returns-clause-merges : goal.returns-clause-merges
returns-clause-merges g c = λ is taken _ _.
    let still = subst (λ words. IsTaken words) (sym c.as_slice.ensures.value) taken in
    let amiss = c.refuse_line.ensures.mistake (taken_mistake c.in-Err.fault _ _ (c.in-Err.ensures.passes still)) in
    absurd {A = MergesLine (line_of c.args.words.items) (g.F.Files.held c.args.files.now)
    (g.F.Files.held c.args.files.now)} (omega (arith, is, amiss.0))

pub returns-clause-withdraws : goal.returns-clause-withdraws
returns-clause-withdraws g c = λ is taken _ _.
    let still = subst (λ words. IsTaken words) (sym c.as_slice.ensures.value) taken in
    let amiss = c.refuse_line.ensures.mistake (taken_mistake c.in-Err.fault _ _ (c.in-Err.ensures.passes still)) in
    absurd {A = WithdrawsLine (line_of c.args.words.items) (g.F.Files.held c.args.files.now)
    (g.F.Files.held c.args.files.now)} (omega (arith, is, amiss.0))

pub returns-clause-publishes : goal.returns-clause-publishes
returns-clause-publishes g c = λ is taken _ _.
    let still = subst (λ words. IsTaken words) (sym c.as_slice.ensures.value) taken in
    let amiss = c.refuse_line.ensures.mistake (taken_mistake c.in-Err.fault _ _ (c.in-Err.ensures.passes still)) in
    absurd {A = PublishesLine (line_of c.args.words.items) c.refuse_line.result (g.F.Files.held c.args.files.now)
    (g.F.Files.held c.args.files.now)} (refused_line c.refuse_line.result is amiss.0 c.refuse_line.ensures.status)

pub returns-clause-stages : goal.returns-clause-stages
returns-clause-stages g c = λ is taken _.
    let still = subst (λ words. IsTaken words) (sym c.as_slice.ensures.value) taken in
    let amiss = c.refuse_line.ensures.mistake (taken_mistake c.in-Err.fault _ _ (c.in-Err.ensures.passes still)) in
    absurd (refused_line c.refuse_line.result is amiss.0 c.refuse_line.ensures.status)

pub returns-clause-index_says : goal.returns-clause-index_says
returns-clause-index_says g c = λ is taken _.
    let still = subst (λ words. IsTaken words) (sym c.as_slice.ensures.value) taken in
    let amiss = c.refuse_line.ensures.mistake (taken_mistake c.in-Err.fault _ _ (c.in-Err.ensures.passes still)) in
    absurd (refused_line c.refuse_line.result is amiss.0 c.refuse_line.ensures.status)

pub returns-clause-merge_says : goal.returns-clause-merge_says
returns-clause-merge_says g c = λ is taken _.
    let still = subst (λ words. IsTaken words) (sym c.as_slice.ensures.value) taken in
    let amiss = c.refuse_line.ensures.mistake (taken_mistake c.in-Err.fault _ _ (c.in-Err.ensures.passes still)) in
    absurd (refused_line c.refuse_line.result (inl is) amiss.0 c.refuse_line.ensures.status)

pub returns-clause-withdraw_says : goal.returns-clause-withdraw_says
returns-clause-withdraw_says g c = λ is taken _.
    let still = subst (λ words. IsTaken words) (sym c.as_slice.ensures.value) taken in
    let amiss = c.refuse_line.ensures.mistake (taken_mistake c.in-Err.fault _ _ (c.in-Err.ensures.passes still)) in
    absurd (refused_line c.refuse_line.result (inl is) amiss.0 c.refuse_line.ensures.status)

pub returns-clause-publish_says : goal.returns-clause-publish_says
returns-clause-publish_says g c = λ is taken _.
    let still = subst (λ words. IsTaken words) (sym c.as_slice.ensures.value) taken in
    let amiss = c.refuse_line.ensures.mistake (taken_mistake c.in-Err.fault _ _ (c.in-Err.ensures.passes still)) in
    absurd (refused_line c.refuse_line.result is amiss.0 c.refuse_line.ensures.status)

pub returns-clause-lists : goal.returns-clause-lists
returns-clause-lists g c = λ is taken _.
    let still = subst (λ words. IsTaken words) (sym c.as_slice.ensures.value) taken in
    let amiss = c.refuse_line.ensures.mistake (taken_mistake c.in-Err.fault _ _ (c.in-Err.ensures.passes still)) in
    absurd (refused_line c.refuse_line.result (inl is) amiss.0 c.refuse_line.ensures.status)

pub returns-clause-checks : goal.returns-clause-checks
returns-clause-checks g c = λ is taken _.
    let still = subst (λ words. IsTaken words) (sym c.as_slice.ensures.value) taken in
    let amiss = c.refuse_line.ensures.mistake (taken_mistake c.in-Err.fault _ _ (c.in-Err.ensures.passes still)) in
    absurd (refused_line c.refuse_line.result is amiss.0 c.refuse_line.ensures.status)

-- ---- what was refused

pub returns-in-Ok-clause-refused : goal.returns-in-Ok-clause-refused
returns-in-Ok-clause-refused g c = λ one taken. elim (c.run_request.ensures.refused one) [
  | inl failed ↦ inl failed
  | inr refused ↦ inr (inr (
    c.in-Ok.request,
    subst (λ words. IsRequested c.in-Ok.request (line_of words))
        c.as_slice.ensures.value c.in-Ok.ensures.request,
    refused,
  ))
]

pub returns-clause-refused : goal.returns-clause-refused
returns-clause-refused g c = λ one taken.
    let still = subst (λ words. IsTaken words) (sym c.as_slice.ensures.value) taken in
    inr (inl (c.refuse_line.ensures.refused (taken_mistake c.in-Err.fault _ _ (c.in-Err.ensures.passes still)) one))
