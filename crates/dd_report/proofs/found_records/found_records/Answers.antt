-- Nothing was there before.
use Rattle.std.proofs.Common.{rules}
use Rattle.dd_walk.specs.ForestViews.{trees_view}
use Rattle.dd_report.specs.FoundRecords.{rows_of}
use Rattle.dd_report.proofs.FoundRows.{all_found}
use Rattle.dd_report.proofs.found_records.found_records.Goals as goal

pub returns-clause-found : goal.returns-clause-found
returns-clause-found g c =
    all_found g.F.FoundPaths.is_shown (g.F.Files.held c.args.files.now) c.args.listing.folder.now
    (rows_of 0 (trees_view c.args.trees.now)) _ _ (search rules) c.in_ok-add_trees.ensures.found
