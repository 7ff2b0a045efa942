-- The values at the tags so far were added.
use Rattle.std.proofs.Common.{[], take}
use Rattle.dd_walk.specs.ForestViews.{tree_view}
use Rattle.dd_calls.specs.Rows.{AddsRows, values_at}
use Rattle.dd_calls.proofs.table.add_values.Given as goal

abbrev pub invariant-loop-tag : goal.invariant-loop-tag
invariant-loop-tag l = AddsRows [] (values_at (take l.tag-index l.tags) (tree_view l.tree).node) l.initial.table l.table
