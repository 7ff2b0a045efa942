-- The names of the file-set come first, then its records.
use Rattle.dd_walk.specs.ForestViews.{walk_view}
use Rattle.dd_lines.proofs.GoingOn.{tells_then}
use Rattle.dd_report.specs.declared.known.Form.TheVariants.{Long}
use Rattle.dd_report.specs.Listing.{lines_in, set_line}
use Rattle.dd_report.proofs.ListedLines.{names_fail}
use Rattle.dd_report.proofs.listing.list_set.Goals as goal

pub returns-in_err-list_names-clause-written : goal.returns-in_err-list_names-clause-written
returns-in_err-list_names-clause-written g c =
    names_fail c.from_residual.result c.args.style (walk_view c.args.forest.now) _ _ c.from_residual.ensures.0
    c.in_err-list_names.ensures.written

pub returns-clause-written : goal.returns-clause-written
returns-clause-written g c =
    tells_then c.list_forest.result (set_line c.args.style (walk_view c.args.forest.now))
    (lines_in c.args.style Long (walk_view c.args.forest.now)) _ _ _ c.in_ok-list_names.ensures.written
    c.list_forest.ensures.written
