use Rattle.std.specs.Prelude.{◌≡◌, IfOk}
use Rattle.std.proofs.Common.{refl, sym, subst, ◌∙◌, inr}
use Rattle.std.proofs.lemmas.Result.{IfErr-weaker}
use Rattle.dd_layout.specs.declared.fault.PlanFault.{PlanFault}
use Rattle.dd_layout.specs.Layouts.{Layout}
use Rattle.dd_layout.specs.Refusal.{excess}
use Rattle.dd_dir.specs.Deriving.{harmony_excess, harmony_label}
use Rattle.dd_dir.proofs.Deriving.{plan_is_derived, refusal_is_derived, uid_is_derived}
use Rattle.dd_dir.proofs.derived.lay_out_derived_harmony.Goals as goal

uid_is : (c : goal.After-under) → c.uid_of-uid.result
    ≡ (harmony_label c.args.id.now c.args.harmony.versions c.args.harmony.withdrawn).uid
uid_is c =
    c.uid_of-uid.ensures
    ∙ uid_is_derived c.args.id.now c.args.harmony.versions c.args.harmony.withdrawn
    c.unnamed_label.result c.in_ok-plan.plan c.in_ok-plan.ensures.planned c.unnamed_label.ensures

-- the refusal of the plan under the derived UID
refusal_is : (c : goal.After-under)
    → excess (record { id = c.args.id.now; uid = c.uid_of-uid.result }) c.args.limits c.in_ok-plan.plan.versions
    c.in_ok-plan.plan.withdrawn
    ≡ harmony_excess c.args.id.now c.args.limits c.args.harmony.versions c.args.harmony.withdrawn
refusal_is c =
    refusal_is_derived c.args.id.now c.args.limits c.args.harmony.versions c.args.harmony.withdrawn
    c.unnamed_label.result c.in_ok-plan.plan c.uid_of-uid.result c.in_ok-plan.ensures.planned c.unnamed_label.ensures
    (uid_is c) (c.in_ok-plan.ensures.allowed refl)

pub returns-clause-planned : goal.returns-clause-planned
returns-clause-planned c =
    subst (λ (x : Layout). IfOk c.under.result (λ plan. plan ≡ x))
    (plan_is_derived c.args.id.now c.args.harmony.versions c.args.harmony.withdrawn
    c.unnamed_label.result c.in_ok-plan.plan c.uid_of-uid.result c.in_ok-plan.ensures.planned
    (uid_is c))
    c.under.ensures.planned

pub returns-clause-allowed : goal.returns-clause-allowed
returns-clause-allowed c = λ ok.
    sym (refusal_is c) ∙ c.under.ensures.allowed ok

pub returns-clause-refused : goal.returns-clause-refused
returns-clause-refused c =
    IfErr-weaker c.under.result _ _ (λ (fault : PlanFault) h. inr (sym (refusal_is c) ∙ h)) c.under.ensures.refused
