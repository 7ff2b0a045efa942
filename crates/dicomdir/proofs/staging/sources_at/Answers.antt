-- The next source has the next path and name.
use Rattle.std.proofs.Common.{◌≡◌, ◌∙◌, List, Some, ap, arith, subst, sym}
use Rattle.std.proofs.lemmas.Grind.{common_steps}
use Rattle.std.specs.Prelude.{slice_get}
use Rattle.dd_pile.specs.declared.source.StageSource.{StageSource}
use Rattle.dicomdir.proofs.StagedSources.{said_push}
use Rattle.dicomdir.specs.FileSupply.{is_one}
use Rattle.dicomdir.proofs.staging.sources_at.Goals as goal

pub loop-at-preserved : goal.loop-at-preserved
loop-at-preserved c =
    let bad = c.args.sources.bad_names.now in
    let before = c.loop-at.invariant in
    let last = c.contains.ensures ∙ ap (is_one bad) (sym before.3) in (
      grind (arith, common_steps),
      grind (arith, common_steps),
      λ n source is. said_push (is_one bad) c.loop-at.staged.items _ before.2 last n source
          (subst (λ (items : List StageSource). slice_get items n ≡ Some source) c.in_ok-push.ensures.items is),
      grind (arith, common_steps),
    )
