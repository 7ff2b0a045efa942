-- What is found in one more tree comes after what was found before.
use Rattle.std.proofs.Common.{◌≡◌, ◌∙◌, ◌∷◌, Err, refl}
use Rattle.std.proofs.lemmas.Result.{err_from_is_err_and}
use Rattle.dd_walk.specs.ForestViews.{tree_view}
use Rattle.dd_report.proofs.ToldTrees.{branch_told, more_told, none_told, record_ends, trees_end}
use Rattle.dd_report.proofs.checking.+findings.Goals as goal

pub check_tree-returns-in_err-check_record-clause-checks : goal.check_tree-returns-in_err-check_record-clause-checks
check_tree-returns-in_err-check_record-clause-checks g t c = λ above said.
    let below = c.under-inherited.ensures above said in
    let r = c.from_residual.result in
    let p = err_from_is_err_and r c.from_residual.ensures.1 in
    let fails : r ≡ Err c.in_err-check_record.field-0.0 = rw (p.1, p.2) refl in
    record_ends g.F.In.Read
    (g.F.Files.held c.args.files.now) c.args.at.check.folder.now c.args.at.check.comparison c.args.at.check.style
    (tt {0}) above c.args.tree.now r
    c.check_record.result c.in_err-check_record.field-0.0 (g.F.Files.refusals c.args.files.now)
    (g.F.Files.refusals c.check_record.new.files) _ _ fails c.in_err-check_record.was
    (c.check_record.ensures.checks above below)

pub check_tree-returns-clause-checks : goal.check_tree-returns-clause-checks
check_tree-returns-clause-checks g t c = λ above said.
    let below = c.under-inherited.ensures above said in
    branch_told g.F.In.Read
    (g.F.Files.held c.args.files.now) c.args.at.check.folder.now c.args.at.check.comparison c.args.at.check.style above
    (g.F.Files.held c.check_record.new.files) c.args.tree.now c.deref.result.now (tt {0})
    c.check_trees.result (g.F.Files.refusals c.args.files.now)
    (g.F.Files.refusals c.check_record.new.files) (g.F.Files.refusals c.check_trees.new.files) _ _ _
    c.in_ok-check_record.ensures.kept c.deref.ensures.value
    (c.in_ok-check_record.ensures.checks above below)
    (c.check_trees.ensures.checks ((tree_view c.args.tree.now).node ∷ above) below)

pub check_trees-returns-in_err-check_tree-clause-checks : goal.check_trees-returns-in_err-check_tree-clause-checks
check_trees-returns-in_err-check_tree-clause-checks g t c = λ above said.
    let r = c.from_residual.result in
    let p = err_from_is_err_and r c.from_residual.ensures.1 in
    let fails : r ≡ Err c.in_err-check_tree.field-0.0 = rw (p.1, p.2) refl in
    trees_end g.F.In.Read
    (g.F.Files.held c.args.files.now) c.args.at.check.folder.now c.args.at.check.comparison c.args.at.check.style above
    (g.F.Files.held c.loop-tree.files) c.args.trees.now c.loop-tree.tree-index c.tree-item.result r
    c.check_tree.result c.in_err-check_tree.field-0.0 (tt {0}) (g.F.Files.refusals c.args.files.now)
    (g.F.Files.refusals c.loop-tree.files) (g.F.Files.refusals c.check_tree.new.files) _ _ _
    c.loop-tree-test.true c.tree-item.is c.loop-tree.invariant.kept fails c.in_err-check_tree.was
    (c.loop-tree.invariant.checked above said) (c.check_tree.ensures.checks above said)

pub check_trees-loop-tree-init : goal.check_trees-loop-tree-init
check_trees-loop-tree-init g t c = record {
  same = refl;
  ready = c.requires;
  checked = λ above said.
      none_told g.F.In.Read
      (g.F.Files.held c.args.files.now) c.args.at.check.folder.now c.args.at.check.comparison c.args.at.check.style
      (tt {0})
      (g.F.Files.refusals c.args.files.now) _;
  kept = refl;
}

pub check_trees-loop-tree-preserved : goal.check_trees-loop-tree-preserved
check_trees-loop-tree-preserved g t c = record {
  same = c.in_ok-check_tree.ensures.same ∙ c.loop-tree.invariant.same;
  ready = c.in_ok-check_tree.ensures.ready;
  checked = λ above said.
      more_told g.F.In.Read
      (g.F.Files.held c.args.files.now) c.args.at.check.folder.now c.args.at.check.comparison c.args.at.check.style
      above
      (g.F.Files.held c.loop-tree.files) c.args.trees.now c.loop-tree.tree-index c.tree-item.result
      (tt {0}) (tt {0}) (tt {0}) (g.F.Files.refusals c.args.files.now)
      (g.F.Files.refusals c.loop-tree.files) (g.F.Files.refusals c.check_tree.new.files) _ _ _
      c.loop-tree-test.true c.tree-item.is c.loop-tree.invariant.kept
      (c.loop-tree.invariant.checked above said) (c.in_ok-check_tree.ensures.checks above said);
  kept = c.in_ok-check_tree.ensures.kept ∙ c.loop-tree.invariant.kept;
}
