-- Each call is to a function further down the list, or into an item, where one level less is left.
use Rattle.std.proofs.Common.{◌≡◌, ◌+◌, ◌*◌, ◌≤◌}
use Rattle.dd_stream.specs.Feeds.{Scans}
use Rattle.dd_grammar.specs.Reading.{item_reader}
use Rattle.dd_scan.proofs.Skipped.{ElementsGo, ItemsGo}
use Rattle.dd_scan.proofs.skipping.+skipping.Given as goal

abbrev pub decreases-skip_part : goal.decreases-skip_part
decreases-skip_part g l = 4 * l.levels

abbrev pub decreases-skip_items : goal.decreases-skip_items
decreases-skip_items g l = 4 * l.levels + 1

abbrev pub decreases-skip_content : goal.decreases-skip_content
decreases-skip_content g l = 4 * l.levels + 2

abbrev pub decreases-skip_set : goal.decreases-skip_set
decreases-skip_set g l = 4 * l.levels + 3

abbrev pub invariant-skip_set-elements : goal.invariant-skip_set-elements
invariant-skip_set-elements g l = record {
  same : l.at.feed.ghost_name ≡ l.initial.at.feed.ghost_name;
  goes : Scans g.F.Feed.moves g.F.Feed.tells l.initial.at.feed.now l.at.feed.now
      (λ bytes rest. ElementsGo (item_reader l.levels) l.syntax l.form l.initial.at.left bytes l.low l.at.left rest);
  fewer : g.F.Feed.most l.at.feed.now ≤ g.F.Feed.most l.initial.at.feed.now;
}

abbrev pub decreases-skip_set-elements : goal.decreases-skip_set-elements
decreases-skip_set-elements g l = g.F.Feed.most l.at.feed.now

abbrev pub invariant-skip_items-items : goal.invariant-skip_items-items
invariant-skip_items-items g l = record {
  same : l.at.feed.ghost_name ≡ l.initial.at.feed.ghost_name;
  goes : Scans g.F.Feed.moves g.F.Feed.tells l.initial.at.feed.now l.at.feed.now
      (λ bytes rest. ItemsGo (item_reader l.levels) l.syntax l.form l.initial.at.left bytes l.at.left rest);
  fewer : g.F.Feed.most l.at.feed.now ≤ g.F.Feed.most l.initial.at.feed.now;
}

abbrev pub decreases-skip_items-items : goal.decreases-skip_items-items
decreases-skip_items-items g l = g.F.Feed.most l.at.feed.now
