-- The records of a tree more are counted.
use Rattle.std.proofs.Common.{arith}
use Rattle.dd_report.proofs.ListedLines.{one_tree_more}
use Rattle.dd_report.proofs.listing.+counts.Goals as goal

pub record_count-loop-tree-preserved : goal.record_count-loop-tree-preserved
record_count-loop-tree-preserved t c =
    let more = one_tree_more c.args.trees.now c.loop-tree.tree-index c.tree-item.result c.loop-tree-test.true
    c.tree-item.is in
    omega (arith, more, c.loop-tree.invariant, c.count_of.ensures, c.saturating_add-count.ensures)
