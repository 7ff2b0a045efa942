use Rattle.std.proofs.Common.{◌≡◌, drop}
use Rattle.dd_walk.specs.ForestViews.{trees_view}
use Rattle.dd_walk.specs.Trees.{last_offset_or}
use Rattle.dd_walk.proofs.walk.last_offset.Given as goal

abbrev pub invariant-loop-tree : goal.invariant-loop-tree
invariant-loop-tree l = last_offset_or l.last (trees_view (drop l.tree-index l.trees))
    ≡ last_offset_or 0 (trees_view l.trees)
