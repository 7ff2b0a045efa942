use Rattle.std.proofs.Common.{◌*◌, ◌+◌, ◌≤◌, List, map}
use Rattle.dd_encoding.specs.Elements.{Elements}
use Rattle.dd_walk.specs.ForestViews.{tree_view}
use Rattle.dd_walk.specs.Pending.{AreLeft, count_left, pending_view}
use Rattle.dd_walk.proofs.Joining.{Going}
use Rattle.dd_walk.proofs.walk.+walk.Given as goal

abbrev pub decreases-tree : goal.decreases-tree
decreases-tree l = 2 * count_left (pending_view l.pending.now)

abbrev pub decreases-chain : goal.decreases-chain
decreases-chain l = 2 * count_left (pending_view l.pending.now) + 1

abbrev pub decreases-chain-siblings : goal.decreases-chain-siblings
decreases-chain-siblings l = count_left (pending_view l.pending)

abbrev pub invariant-chain-siblings : goal.invariant-chain-siblings
invariant-chain-siblings l = record {
  fewer : count_left (pending_view l.pending) ≤ count_left (pending_view l.initial.pending);
  going : (sets : List Elements) → AreLeft sets (pending_view l.initial.pending)
      → Going l.starts sets l.first l.level (pending_view l.initial.pending) (map tree_view l.trees.items) l.offset
      (pending_view l.pending);
}
