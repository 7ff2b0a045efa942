-- The records of the trees so far were added.
use Rattle.std.proofs.Common.{List}
use Rattle.dd_walk.specs.Trees.{Node}
use Rattle.dd_calls.specs.Standings.{Inherits}
use Rattle.dd_calls.proofs.Inheriting.{Went}
use Rattle.dd_calls.proofs.standing.+standings.Given as goal

abbrev pub invariant-add_standings-loop-tree : goal.invariant-add_standings-loop-tree
invariant-add_standings-loop-tree l =
    (nodes : List Node) → Inherits l.above nodes
    → Went nodes l.trees l.tree-index l.initial.records.items l.records.items
