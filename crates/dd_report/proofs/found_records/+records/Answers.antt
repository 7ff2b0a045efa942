-- A record more, and those below it.
use Rattle.std.proofs.Common.{◌∙◌, arith, refl}
use Rattle.dd_report.specs.FoundRecords.{found_rows}
use Rattle.dd_report.proofs.FoundRows.{branch_found, finds_none, tree_found, trees_found}
use Rattle.dd_report.proofs.found_records.+records.Goals as goal

pub add_tree-returns-clause-found : goal.add_tree-returns-clause-found
add_tree-returns-clause-found g t c =
    branch_found g.F.FoundPaths.is_shown (g.F.Files.held c.args.files.now) c.args.listing.folder.now c.add_trees.result
    (g.F.Files.held c.path_of.new.files) c.args.level c.saturating_add.result c.args.tree.now c.deref.result.now
    (record { tree = c.args.tree; level = c.args.level; path = c.in_ok-path.path })
    c.args.records.now.items c.push.new.self.items c.add_trees.new.records.items c.in_ok-path.ensures.kept refl
    c.in_ok-path.ensures.found c.in_ok-push.ensures.items c.saturating_add.ensures c.deref.ensures.value
    c.add_trees.ensures.found

pub add_trees-loop-tree-init : goal.add_trees-loop-tree-init
add_trees-loop-tree-init g t c = record {
  found = finds_none g.F.FoundPaths.is_shown (g.F.Files.held c.args.files.now) c.args.listing.folder.now
      (found_rows c.args.records.now.items);
  kept = refl;
  unrefused = refl;
}

pub add_trees-loop-tree-preserved : goal.add_trees-loop-tree-preserved
add_trees-loop-tree-preserved g t c = record {
  found = tree_found g.F.FoundPaths.is_shown (g.F.Files.held c.args.files.now) c.args.listing.folder.now
      (g.F.Files.held c.loop-tree.files) c.args.level c.args.trees.now c.loop-tree.tree-index c.tree-item.result
      _ _ _ c.loop-tree.invariant.kept c.loop-tree-test.true c.tree-item.is c.loop-tree.invariant.found
      c.in_ok-add_tree.ensures.found;
  kept = c.in_ok-add_tree.ensures.kept ∙ c.loop-tree.invariant.kept;
  unrefused = c.in_ok-add_tree.ensures.unrefused ∙ c.loop-tree.invariant.unrefused;
}

pub add_trees-returns-clause-found : goal.add_trees-returns-clause-found
add_trees-returns-clause-found g t c =
    trees_found g.F.FoundPaths.is_shown (g.F.Files.held c.args.files.now) c.args.listing.folder.now c.args.level
    c.args.trees.now c.loop-tree.tree-index _ _ (omega arith) c.loop-tree.invariant.found
