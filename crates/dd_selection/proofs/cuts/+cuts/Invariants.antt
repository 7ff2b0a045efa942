-- What is left of the trees so far, and of the rest, is left of all.
use Rattle.std.proofs.Common.{◌≡◌, ◌++◌, map}
use Rattle.std.specs.List.{flat_map}
use Rattle.std.specs.Vec.Iter.{into_iter_items}
use Rattle.dd_walk.specs.ForestViews.{tree_view}
use Rattle.dd_selection.specs.Cuts.{cut_branch}
use Rattle.dd_selection.specs.Selection.{selection_view}
use Rattle.dd_selection.proofs.cuts.+cuts.Given as goal

abbrev pub invariant-cut_trees-loop-tree : goal.invariant-cut_trees-loop-tree
invariant-cut_trees-loop-tree l =
    map tree_view l.kept.items
    ++ flat_map (cut_branch (selection_view l.selection)) (map tree_view (into_iter_items l.tree-iterator))
    ≡ flat_map (cut_branch (selection_view l.selection)) (map tree_view l.fn.trees.items)
