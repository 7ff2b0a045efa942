-- All lines go, and then all that waits.
use Rattle.std.proofs.Common.{rules}
use Rattle.dd_walk.specs.ForestViews.{walk_view}
use Rattle.dd_report.specs.FoundRecords.{found_listing, found_rows}
use Rattle.dd_lines.proofs.GoingOn.{text_sent, text_unsent}
use Rattle.dd_report.proofs.file_set_listing.list_found.Goals as goal

pub returns-clause-sent : goal.returns-clause-sent
returns-clause-sent g c =
    let sent = text_sent c.flush.result (found_listing (walk_view c.args.forest.now) (found_rows c.args.records.now)) _ _
    _ _ _ _ _ _ c.new-lines.ensures.empty c.in_ok-add_found.ensures.written c.flush.ensures.sent in
    search (rules, sent)

pub returns-clause-unsent : goal.returns-clause-unsent
returns-clause-unsent g c =
    let unsent = text_unsent c.flush.result (found_listing (walk_view c.args.forest.now) (found_rows c.args.records.now))
    _ _ _ _ _ _ _ _ c.new-lines.ensures.empty c.in_ok-add_found.ensures.written c.flush.ensures.unsent in
    search (rules, unsent)
