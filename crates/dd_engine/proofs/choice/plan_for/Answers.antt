use Rattle.std.proofs.Common.{◌∙◌, inl, inr}
use Rattle.std.proofs.lemmas.Result.{IfErr-weaker, IfOk-weaker}
use Rattle.dd_engine.proofs.InHarmony.{derived_excess, derived_plan}
use Rattle.dd_engine.proofs.choice.plan_for.Goals as goal

pub returns-in-None-clause-planned : goal.returns-in-None-clause-planned
returns-in-None-clause-planned c = λ m is. IfOk-weaker c.lay_out_derived_harmony.result _ _
    (λ plan laid. derived_plan c.args.choice.now m c.args.harmony.versions c.args.harmony.withdrawn plan c.in-None.is is
    laid)
    c.lay_out_derived_harmony.ensures.planned

pub returns-in-None-clause-allowed : goal.returns-in-None-clause-allowed
returns-in-None-clause-allowed c = λ m absent is ok.
    derived_excess c.args.choice.now c.args.limits m c.args.harmony.versions c.args.harmony.withdrawn c.in-None.is absent
    is ∙ c.lay_out_derived_harmony.ensures.allowed ok

pub returns-in-None-clause-refused : goal.returns-in-None-clause-refused
returns-in-None-clause-refused c = λ m absent is. IfErr-weaker c.lay_out_derived_harmony.result _ _
    (λ fault h. elim h [
      | inl lacks ↦ inl lacks
      | inr excess ↦ inr (derived_excess c.args.choice.now c.args.limits m c.args.harmony.versions
          c.args.harmony.withdrawn c.in-None.is absent is ∙ excess)
    ])
    c.lay_out_derived_harmony.ensures.refused
