use Rattle.std.proofs.Common.{◌≡◌, ◌∙◌, ap, map, []}
use Rattle.std.proofs.lemmas.Result.{IfOk-weaker}
use Rattle.dd_layout.specs.Plans.{tree}
use Rattle.dd_layout.specs.Stages.{bare_at}
use Rattle.dd_layout.specs.WalkedRecords.{records_from, standing}
use Rattle.dd_layout.proofs.LeastBelow.{walk_is_tree}
use Rattle.dd_layout.proofs.nodes.nodes.Goals as goal

pub returns-clause-records : goal.returns-clause-records
returns-clause-records c =
    let versions = c.args.versions.now in
    let value = c.deref.ensures.value in
    let same = c.in_ok-placed.ensures.all in
    let order = c.in_ok-placed.ensures.order in
    let walk = walk_is_tree versions (map standing c.in_ok-placed.placed.items) same order in
    IfOk-weaker c.records_along.result (λ records. records.items ≡ records_from [] (map standing c.deref.result.now))
    (λ records. records.items ≡ map (bare_at versions) (tree versions))
    (λ records is. is ∙ ap (λ l. records_from [] (map standing l)) value ∙ walk) c.records_along.ensures
