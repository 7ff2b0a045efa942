use Rattle.std.proofs.Common.{◌≡◌, ◌≤◌, map}
use Rattle.dd_stream.specs.Feeds.{Scans}
use Rattle.dd_grammar.specs.Reading.{item_reader}
use Rattle.dd_scan.specs.Scan.{found_hit}
use Rattle.dd_encoding.specs.Spelling.{max_levels}
use Rattle.dd_scan.proofs.Scanned.{ScanGo}
use Rattle.dd_scan.proofs.top_set.take_elements.Given as goal

abbrev pub invariant-elements : goal.invariant-elements
invariant-elements g l = record {
  same : l.at.feed.ghost_name ≡ l.initial.at.feed.ghost_name;
  goes : Scans g.F.Feed.moves g.F.Feed.tells l.initial.at.feed.now l.at.feed.now
      (λ bytes rest. ScanGo l.wanted (item_reader max_levels) l.syntax bytes l.low l.at.left l.scan.first
      (map found_hit l.scan.found.items) rest);
  fewer : g.F.Feed.most l.at.feed.now ≤ g.F.Feed.most l.initial.at.feed.now;
}

abbrev pub decreases-elements : goal.decreases-elements
decreases-elements g l = g.F.Feed.most l.at.feed.now
