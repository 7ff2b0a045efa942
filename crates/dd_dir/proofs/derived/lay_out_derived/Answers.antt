use Rattle.std.proofs.Common.{sym, subst, ◌∙◌}
use Rattle.std.proofs.lemmas.Result.{IfErr-weaker, IfOk-weaker}
use Rattle.dd_catalogue.specs.HarmonyFound.{IsHarmonyOf}
use Rattle.dd_catalogue.specs.declared.outcomes.Harmony.TheVariants.{Found}
use Rattle.dd_layout.specs.declared.fault.PlanFault.{PlanFault}
use Rattle.dd_layout.specs.Layouts.{Layout}
use Rattle.dd_dir.proofs.Deriving.{fault_of_harmony, plan_of_harmony, refusal_of_harmony}
use Rattle.dd_dir.proofs.derived.lay_out_derived.Goals as goal

found_is : (c : goal.After-lay_out_derived_harmony) → IsHarmonyOf c.args.catalogue.now (Found c.in-Found.harmony)
found_is c = subst (λ h. IsHarmonyOf c.args.catalogue.now h) c.in-Found.is c.in_ok-harmony.ensures.harmony

pub returns-in-Found-clause-planned : goal.returns-in-Found-clause-planned
returns-in-Found-clause-planned c =
    IfOk-weaker c.lay_out_derived_harmony.result _ _
    (λ (plan : Layout) h. h ∙ plan_of_harmony c.args.id.now c.args.catalogue.now c.in-Found.harmony (found_is c))
    c.lay_out_derived_harmony.ensures.planned

pub returns-in-Found-clause-allowed : goal.returns-in-Found-clause-allowed
returns-in-Found-clause-allowed c = λ ok.
    sym (refusal_of_harmony c.args.id.now c.args.limits c.args.catalogue.now c.in-Found.harmony (found_is c))
    ∙ c.lay_out_derived_harmony.ensures.allowed ok

pub returns-in-Found-clause-refused : goal.returns-in-Found-clause-refused
returns-in-Found-clause-refused c =
    IfErr-weaker c.lay_out_derived_harmony.result _ _
    (λ (fault : PlanFault). fault_of_harmony c.args.id.now c.args.limits c.args.catalogue.now c.in-Found.harmony fault
    (found_is c))
    c.lay_out_derived_harmony.ensures.refused
