-- What names the file-set goes, then its records, and then the last lines.
use Rattle.dd_walk.specs.ForestViews.{walk_view}
use Rattle.dd_report.specs.FoundRecords.{found_rows}
use Rattle.dd_report.proofs.FoundLines.{end_tells, names_fail, records_fail}
use Rattle.dd_report.proofs.file_set_listing.add_found.Goals as goal

pub returns-in_err-list_names-clause-written : goal.returns-in_err-list_names-clause-written
returns-in_err-list_names-clause-written g c =
    names_fail c.from_residual.result (walk_view c.args.forest.now) (found_rows c.args.records.now) _ _
    c.from_residual.ensures.0 c.in_err-list_names.ensures.written

pub returns-in_err-add_records-clause-written : goal.returns-in_err-add_records-clause-written
returns-in_err-add_records-clause-written g c =
    records_fail c.from_residual-in_err-add_records.result (walk_view c.args.forest.now)
    (found_rows c.args.records.now) _ _ _ c.from_residual-in_err-add_records.ensures.0
    c.in_ok-list_names.ensures.written c.in_err-add_records.ensures.written

pub returns-clause-written : goal.returns-clause-written
returns-clause-written g c =
    end_tells c.list_end.result (walk_view c.args.forest.now) (found_rows c.args.records.now) _ _ _ _
    c.in_ok-list_names.ensures.written c.in_ok-add_records.ensures.written c.list_end.ensures.written
