use Rattle.std.proofs.Common.{◌≡◌, ◌≤◌, ◌+◌, ◌-◌, ℕ, List, length}
use Rattle.dd_stream.proofs.filling.skip.Given as goal

abbrev pub invariant-loop-at : goal.invariant-loop-at
invariant-loop-at g l = record {
  within : l.at ≤ l.n;
  moved : (taken : List ℕ) × (length taken ≡ l.at) × g.F.Feed.moves l.initial.feed l.feed taken;
  fewer : l.at + g.F.Feed.most l.feed ≤ g.F.Feed.most l.initial.feed;
}

abbrev pub decreases-loop-at : goal.decreases-loop-at
decreases-loop-at g l = l.n - l.at
