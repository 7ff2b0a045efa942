-- The files of the trees so far are looked for.
use Rattle.std.proofs.Common.{◌≡◌, take}
use Rattle.dd_walk.specs.ForestViews.{trees_view}
use Rattle.dd_report.specs.FoundRecords.{FindsMore, found_rows, rows_of}
use Rattle.dd_report.proofs.found_records.+records.Given as goal

abbrev pub invariant-add_trees-loop-tree : goal.invariant-add_trees-loop-tree
invariant-add_trees-loop-tree g l = record {
  found : FindsMore g.F.FoundPaths.is_shown (g.F.Files.held l.initial.files) l.listing.folder.now
      (rows_of l.level (trees_view (take l.tree-index l.trees)))
      (found_rows l.initial.records.items) (found_rows l.records.items);
  kept : g.F.Files.held l.files ≡ g.F.Files.held l.initial.files;
  unrefused : g.F.Files.refusals l.files ≡ g.F.Files.refusals l.initial.files;
}
