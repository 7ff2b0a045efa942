-- The value at a tag more was added.
use Rattle.std.proofs.Common.{refl, rules}
use Rattle.dd_walk.specs.ForestViews.{tree_view}
use Rattle.dd_calls.proofs.Growing.{values_more}
use Rattle.dd_calls.proofs.table.add_values.Goals as goal

pub loop-tag-preserved : goal.loop-tag-preserved
loop-tag-preserved c =
    values_more c.args.tags.now (tree_view c.args.tree.now).node c.loop-tag.tag-index _ c.value_of.result.now _ _ _
    c.loop-tag-test.true (search rules) c.value_of.ensures refl c.loop-tag.invariant c.in_ok-put.ensures
