-- Both ways leave the same trees.
use Rattle.std.proofs.Common.{◌≡◌, IfOk, subst}
use Rattle.dd_walk.specs.ForestViews.{trees_view}
use Rattle.dd_walk.specs.Trees.{Trees}
use Rattle.dd_selection.specs.Selection.{selection_view}
use Rattle.dd_selection.proofs.LeftBelow.{selects}
use Rattle.dd_selection.proofs.cuts.select.Goals as goal

pub returns : goal.returns
returns c = record {
  exact = subst (λ (left : Trees). IfOk c.cut_trees.result (λ found. trees_view found.items ≡ left))
      (selects (selection_view c.args.selection) (trees_view c.args.trees.items)) c.cut_trees.ensures.exact;
}
