-- The trees so far are counted.
use Rattle.std.proofs.Common.{◌≡◌, take}
use Rattle.dd_walk.specs.ForestViews.{trees_view}
use Rattle.dd_report.specs.Listing.{record_count}
use Rattle.dd_report.proofs.listing.+counts.Given as goal

abbrev pub invariant-record_count-loop-tree : goal.invariant-record_count-loop-tree
invariant-record_count-loop-tree l = l.count ≡ record_count (trees_view (take l.tree-index l.trees))
