use Rattle.std.proofs.Common.{◌≡◌, ◌≤◌}
use Rattle.dd_stream.specs.Feeds.{Scans}
use Rattle.dd_scan.proofs.FragmentSteps.{FragmentsGo}
use Rattle.dd_scan.proofs.skipping.skip_fragments.Given as goal

abbrev pub invariant-fragments : goal.invariant-fragments
invariant-fragments g l = record {
  same : l.at.feed.ghost_name ≡ l.initial.at.feed.ghost_name;
  goes : Scans g.F.Feed.moves g.F.Feed.tells l.initial.at.feed.now l.at.feed.now
      (λ bytes rest. FragmentsGo l.initial.at.left bytes l.at.left rest);
  fewer : g.F.Feed.most l.at.feed.now ≤ g.F.Feed.most l.initial.at.feed.now;
}

abbrev pub decreases-fragments : goal.decreases-fragments
decreases-fragments g l = g.F.Feed.most l.at.feed.now
