use Rattle.std.proofs.Common.{◌∙◌, ap, length, refl}
use Rattle.std.proofs.lemmas.Result.{err_from_is_err_and}
use Rattle.dd_layout.specs.Plans.{records_of}
use Rattle.dd_engine.specs.Picking.{taken_of}
use Rattle.dd_engine.specs.Planned.{kept_in}
use Rattle.dd_engine.proofs.Planned.{in_harmony, many_planned, picks_are, plan_is, refusal_is, unfound, unpicked}
use Rattle.dd_engine.proofs.Planned.{unplanned}
use Rattle.dd_engine.proofs.planning.plan_of.Goals as goal

pub returns-in_err-changes-clause-refused : goal.returns-in_err-changes-clause-refused
returns-in_err-changes-clause-refused g c =
    let p = err_from_is_err_and c.from_residual.result c.from_residual.ensures.1 in
    rw (p.1, p.2) (unfound c.args.basis c.args.choice.now c.args.limits c.in_err-changes.field-0.0.fault
    c.in_err-changes.field-0.0.conflict c.in_err-changes.ensures.refused)

pub returns-in_err-plan-clause-refused : goal.returns-in_err-plan-clause-refused
returns-in_err-plan-clause-refused g c =
    let p = err_from_is_err_and c.from_residual-in_err-plan.result c.from_residual-in_err-plan.ensures.1 in
    let basis = c.args.basis in
    let are = c.in_ok-changes.ensures.found in
    let harmony = c.into_catalogue-harmony.result in
    let is = c.into_catalogue-harmony.ensures in
    rw (p.1, p.2) (unplanned basis c.in_ok-changes.field-0 harmony are is c.args.choice.now c.args.limits
    c.in_err-plan.field-0.0 (c.in_err-plan.ensures.refused (kept_in basis) are.none
    (in_harmony basis c.in_ok-changes.field-0 harmony are is)))

pub picks_of-requires : goal.picks_of-requires
picks_of-requires g c =
    let basis = c.args.basis in
    let are = c.in_ok-changes.ensures.found in
    let harmony = c.into_catalogue-harmony.result in
    let is = c.into_catalogue-harmony.ensures in
    ap length c.deref.ensures.value
    ∙ many_planned basis c.in_ok-changes.field-0 harmony are is c.args.choice.now c.in_ok-plan.plan
    (c.in_ok-plan.ensures.planned (kept_in basis) (in_harmony basis c.in_ok-changes.field-0 harmony are is))

pub returns-in_err-picks-clause-refused : goal.returns-in_err-picks-clause-refused
returns-in_err-picks-clause-refused g c =
    let p = err_from_is_err_and c.from_residual-in_err-picks.result c.from_residual-in_err-picks.ensures.1 in
    rw (p.1, p.2) (
      unpicked c.args.basis c.in_ok-changes.field-0 c.into_catalogue-harmony.result c.in_ok-changes.ensures.found
          c.into_catalogue-harmony.ensures (λ none. c.in_err-picks.ensures.some (c.deref.ensures.value ∙ none)),
      refl,
    )

pub returns-clause-planned : goal.returns-clause-planned
returns-clause-planned g c =
    let basis = c.args.basis in
    let choice = c.args.choice.now in
    let found = c.in_ok-changes.field-0 in
    let are = c.in_ok-changes.ensures.found in
    let harmony = c.into_catalogue-harmony.result in
    let is = c.into_catalogue-harmony.ensures in
    let plan = c.in_ok-plan.plan in
    let laid = c.in_ok-plan.ensures.planned (kept_in basis) (in_harmony basis found harmony are is) in
    record {
      plan = plan_is basis found harmony are is choice plan laid;
      allowed = refusal_is basis found harmony are is choice c.args.limits
          ∙ c.in_ok-plan.ensures.allowed (kept_in basis) are.none (in_harmony basis found harmony are is) refl;
      picks = picks_are basis found harmony are is choice plan c.in_ok-picks.picks.items laid
          (c.in_ok-picks.ensures.all
          ∙ ap (λ l. taken_of l (records_of plan.label plan.versions)) c.deref.ensures.value);
      left = are.left;
      names = are.names;
    }
