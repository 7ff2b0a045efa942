-- The lines of what is withdrawn come first, then the number of records.
use Rattle.dd_walk.specs.ForestViews.{walk_view}
use Rattle.dd_report.proofs.ListedLines.{end_listed, withdrawn_fails}
use Rattle.dd_report.proofs.listing.list_end.Goals as goal

pub returns-in_err-list_withdrawn-clause-written : goal.returns-in_err-list_withdrawn-clause-written
returns-in_err-list_withdrawn-clause-written g c =
    withdrawn_fails c.from_residual.result c.args.style (walk_view c.args.forest.now) _ _ c.from_residual.ensures.0
    c.in_err-list_withdrawn.ensures.written

pub returns-clause-written : goal.returns-clause-written
returns-clause-written g c =
    end_listed c.list_totals.result c.args.style (walk_view c.args.forest.now) _ _ _
    c.in_ok-list_withdrawn.ensures.written c.list_totals.ensures.written
