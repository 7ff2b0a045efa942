-- The plan is made of the version alone.
use Rattle.std.proofs.Common.{◌≡◌, ◌⊎◌, ◌∷◌, [], Err, Some, refl, subst, sym}
use Rattle.std.specs.Prelude.{IfErr}
use Rattle.std.proofs.lemmas.Result.{err_from_is_err_and}
use Rattle.dd_layout.specs.declared.fault.PlanFault.TheVariants.{Memory}
use Rattle.dd_dir.specs.Deriving.{derived_refusal}
use Rattle.dd_making.specs.Merges.{no_limits}
use Rattle.dd_making.proofs.Making.{of_version, refused_alone}
use Rattle.dd_making.proofs.images.lay_out_one.Goals as goal

pub returns-in_err-plan-clause-refused : goal.returns-in_err-plan-clause-refused
returns-in_err-plan-clause-refused c =
    let r = c.from_residual-in_err-plan.result in
    let p = err_from_is_err_and r c.from_residual-in_err-plan.ensures.1 in
    let fails : r ≡ Err c.in_err-plan.field-0.0 = rw (p.1, p.2) refl in
    let found = c.in_ok-catalogue.ensures in
    subst (λ answer. IfErr answer (λ fault. (fault ≡ Memory)
    ⊎ (derived_refusal [] no_limits (c.args.version ∷ []) [] ≡ Some fault))) (sym fails)
    (refused_alone c.args.version c.in_err-plan.field-0.0 c.no_id.result c.of_bytes.result
    c.in_ok-catalogue.catalogue.versions c.in_ok-catalogue.catalogue.withdrawn _ c.no_id.ensures c.of_bytes.ensures
    found.best found.withdrawn c.in_err-plan.ensures.refused)

pub returns-clause-made : goal.returns-clause-made
returns-clause-made c =
    let found = c.in_ok-catalogue.ensures in
    of_version c.args.version c.in_ok-directory_bytes.field-0.items c.in_ok-plan.plan c.no_id.result
    c.in_ok-catalogue.catalogue.versions c.in_ok-catalogue.catalogue.withdrawn c.no_id.ensures found.best
    found.withdrawn c.in_ok-plan.ensures.planned c.in_ok-directory_bytes.ensures.bytes
    c.in_ok-directory_bytes.ensures.says
