use Rattle.std.proofs.Common.{◌≡◌, ◌≢◌, map, sym, ◌∙◌, ap, subst}
use Rattle.dd_catalogue.specs.Contents.{Contents, nothing}
use Rattle.dd_catalogue.specs.Histories.{all_together, taken, taken_step}
use Rattle.dd_catalogue.specs.declared.history.History.TheFolds.{fold-roll-History}
use Rattle.dd_catalogue.specs.declared.history.History.TheOpen.{History-F}
use Rattle.dd_catalogue.specs.declared.history.History.TheVariants.{rolls-Merge}
use Rattle.dd_catalogue.proofs.TakenParts.{taken_in_part, on_error}
use Rattle.dd_catalogue.proofs.history.+collect.Goals as goal

pub returns-in_err-collect-in-Merge-clause-some : goal.returns-in_err-collect-in-Merge-clause-some
returns-in_err-collect-in-Merge-clause-some t c =
    let parts = c.deref-part-items.result.now in
    let is : taken c.args.history.now ≡ all_together (map taken parts) =
    ap taken (c.in-Merge.is ∙ sym (rolls-Merge c.in-Merge.parts))
    ∙ fold-roll-History Contents taken_step (History-F.Merge c.in-Merge.parts)
    ∙ ap (λ s. all_together (map taken s)) (sym c.deref-part-items.ensures.value) in
    on_error c.from_residual-in_err-collect-in-Merge.result (taken c.args.history.now ≢ nothing)
    (subst (λ s. s ≢ nothing) (sym is) (taken_in_part parts c.loop-part.part-index c.part-item.result
    c.loop-part-test.true c.part-item.is c.in_err-collect-in-Merge.ensures.some))
