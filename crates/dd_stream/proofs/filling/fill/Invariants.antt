use Rattle.std.proofs.Common.{◌≤◌, ◌+◌, ◌-◌, length, take}
use Rattle.dd_stream.proofs.filling.fill.Given as goal

abbrev pub invariant-loop-at : goal.invariant-loop-at
invariant-loop-at g l = record {
  within : l.at ≤ length l.room;
  moved : g.F.Feed.moves l.initial.feed l.feed (take l.at l.room);
  fewer : l.at + g.F.Feed.most l.feed ≤ g.F.Feed.most l.initial.feed;
}

abbrev pub decreases-loop-at : goal.decreases-loop-at
decreases-loop-at g l = length l.initial.room - l.at
