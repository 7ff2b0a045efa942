-- The lines of the trees so far went.
use Rattle.std.proofs.Common.{◌≡◌}
use Rattle.dd_lines.specs.Telling.{way_of}
use Rattle.dd_lines.proofs.GoingOn.{Went}
use Rattle.dd_report.proofs.ListedLines.{tree_lines}
use Rattle.dd_report.proofs.listing.+lines.Given as goal

abbrev pub invariant-list_trees-loop-tree : goal.invariant-list_trees-loop-tree
invariant-list_trees-loop-tree g l = record {
  same : l.lines.to.ghost_name ≡ l.initial.lines.to.ghost_name;
  went : Went (tree_lines l.style l.form l.level) l.trees l.tree-index (way_of g.W.Write l.initial.lines)
      (way_of g.W.Write l.lines);
}
