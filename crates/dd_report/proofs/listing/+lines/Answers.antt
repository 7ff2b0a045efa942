-- The lines of a tree more went, or the writer failed in them.
use Rattle.std.proofs.Common.{◌∙◌, ap, arith}
use Rattle.dd_lines.proofs.GoingOn.{went_all, went_fails, went_more}
use Rattle.dd_report.proofs.ListedLines.{branch_fails, branch_goes, lines_each, tree_lines}
use Rattle.dd_report.proofs.listing.+lines.Goals as goal

pub list_tree-returns-in_err-list_record-clause-written : goal.list_tree-returns-in_err-list_record-clause-written
list_tree-returns-in_err-list_record-clause-written g t c =
    branch_fails c.from_residual.result c.args.style c.args.form c.args.level c.args.tree.now _ _
    c.from_residual.ensures.0
    c.in_err-list_record.ensures.written

pub list_tree-returns-clause-written : goal.list_tree-returns-clause-written
list_tree-returns-clause-written g t c =
    branch_goes c.list_trees.result c.args.style c.args.form c.args.level c.saturating_add.result c.args.tree.now
    c.deref.result.now _ _ _ c.saturating_add.ensures c.deref.ensures.value c.in_ok-list_record.ensures.written
    c.list_trees.ensures.written

pub list_trees-returns-in_err-list_tree-clause-written : goal.list_trees-returns-in_err-list_tree-clause-written
list_trees-returns-in_err-list_tree-clause-written g t c =
    went_fails c.from_residual.result (tree_lines c.args.style c.args.form c.args.level) c.args.trees.now
    c.loop-tree.tree-index
    c.tree-item.result _ _ _ _ _ c.from_residual.ensures.0 c.loop-tree-test.true
    (ap (tree_lines c.args.style c.args.form c.args.level) c.tree-item.is)
    (lines_each c.args.style c.args.form c.args.level c.args.trees.now) c.loop-tree.invariant.went
    c.in_err-list_tree.ensures.written

pub list_trees-loop-tree-preserved : goal.list_trees-loop-tree-preserved
list_trees-loop-tree-preserved g t c = record {
  same = c.in_ok-list_tree.ensures.same ∙ c.loop-tree.invariant.same;
  went = went_more (tree_lines c.args.style c.args.form c.args.level) c.args.trees.now c.loop-tree.tree-index
      c.tree-item.result _ _ _ _
      c.loop-tree-test.true (ap (tree_lines c.args.style c.args.form c.args.level) c.tree-item.is)
      c.loop-tree.invariant.went
      c.in_ok-list_tree.ensures.written;
}

pub list_trees-returns-clause-written : goal.list_trees-returns-clause-written
list_trees-returns-clause-written g t c =
    went_all (tree_lines c.args.style c.args.form c.args.level) c.args.trees.now c.loop-tree.tree-index _ _ _
    (omega arith)
    (lines_each c.args.style c.args.form c.args.level c.args.trees.now) c.loop-tree.invariant.went
