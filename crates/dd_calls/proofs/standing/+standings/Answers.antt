-- The records of a tree more were added.
use Rattle.std.proofs.Common.{arith}
use Rattle.dd_calls.proofs.Growing.{on_ok}
use Rattle.dd_calls.proofs.Inheriting.{branch_added, went_all, went_more, went_none}
use Rattle.dd_calls.proofs.standing.+standings.Goals as goal

pub add_branch-returns : goal.add_branch-returns
add_branch-returns t c =
    on_ok c.add_standings.result (λ known. λ nodes said.
    branch_added nodes _ c.deref.result.now _ _ _ c.deref.ensures.value (c.under-inherited.ensures nodes said)
    c.in_ok-push.ensures.items (known _ (c.under-inherited.ensures nodes said))) c.add_standings.ensures

pub add_standings-loop-tree-init : goal.add_standings-loop-tree-init
add_standings-loop-tree-init t c = λ nodes said. went_none nodes c.args.trees.now _

pub add_standings-loop-tree-preserved : goal.add_standings-loop-tree-preserved
add_standings-loop-tree-preserved t c = λ nodes said.
    went_more nodes c.args.trees.now c.loop-tree.tree-index c.tree-item.result _ _ _ c.loop-tree-test.true
    c.tree-item.is (c.loop-tree.invariant nodes said) (c.in_ok-add_branch.ensures nodes said)

pub add_standings-returns : goal.add_standings-returns
add_standings-returns t c = λ nodes said.
    went_all nodes c.args.trees.now c.loop-tree.tree-index _ _ (omega arith) (c.loop-tree.invariant nodes said)
