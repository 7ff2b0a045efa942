-- What is found in the trees so far is in the report, and the files hold what they held.
use Rattle.std.proofs.Common.{◌≡◌, List, Ok, take}
use Rattle.dd_walk.specs.ForestViews.{trees_view}
use Rattle.dd_walk.specs.Trees.{Node}
use Rattle.dd_report.specs.Agreements.{IsInherited, standings_below}
use Rattle.dd_report.specs.Batches.{IsReady, Reports, report_of}
use Rattle.dd_report.proofs.checking.+findings.Given as goal

abbrev pub invariant-check_trees-loop-tree : goal.invariant-check_trees-loop-tree
invariant-check_trees-loop-tree g l = record {
  same : l.lines.to.ghost_name ≡ l.initial.lines.to.ghost_name;
  ready : IsReady l.batch;
  checked : (above : List Node) → IsInherited l.at.inherited above
      → Reports g.F.In.Read
      (g.F.Files.held l.initial.files) l.at.check.folder.now l.at.check.comparison l.at.check.style
      (standings_below above (trees_view (take l.tree-index l.trees))) (Ok (tt {0}))
      (g.F.Files.refusals l.initial.files) (g.F.Files.refusals l.files)
      (report_of g.W.Write l.initial.lines l.initial.batch) (report_of g.W.Write l.lines l.batch);
  kept : g.F.Files.held l.files ≡ g.F.Files.held l.initial.files;
}
