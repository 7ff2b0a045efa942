-- The lines of the records come first, and then the last lines.
use Rattle.dd_report.proofs.ListedLines.{all_listed, records_fail}
use Rattle.dd_report.proofs.listing.list_forest.Goals as goal

pub returns-in_err-list_trees-clause-written : goal.returns-in_err-list_trees-clause-written
returns-in_err-list_trees-clause-written g c =
    records_fail c.from_residual.result c.args.style c.args.form c.args.forest.now c.deref.result.now _ _
    c.from_residual.ensures.0
    c.deref.ensures.value c.in_err-list_trees.ensures.written

pub returns-clause-written : goal.returns-clause-written
returns-clause-written g c =
    all_listed c.list_end.result c.args.style c.args.form c.args.forest.now c.deref.result.now _ _ _
    c.deref.ensures.value c.in_ok-list_trees.ensures.written c.list_end.ensures.written
