-- The ID and the UID are those of the file-set.
use Rattle.dd_walk.specs.ForestViews.{walk_view}
use Rattle.dd_report.proofs.FaultLines.{set_tells}
use Rattle.dd_report.proofs.listing.list_names.Goals as goal

pub returns-in-Text-clause-written : goal.returns-in-Text-clause-written
returns-in-Text-clause-written g c =
    rw c.in-Text.is (set_tells c.list_set_words.result (walk_view c.args.forest.now) c.or_dash.result.now
    c.as_bytes.result.now _ _ c.or_dash.ensures c.as_bytes.ensures.value c.list_set_words.ensures.written)
