use Rattle.std.proofs.Common.{◌≡◌, ◌≤◌, ◌+◌, ◌-◌, ◌++◌, ℕ, List, length}
use Rattle.dd_elem.specs.Clean.{clean_of}
use Rattle.dd_scan.proofs.cleaning.cleaned_length.Given as goal

abbrev pub invariant-loop-passed : goal.invariant-loop-passed
invariant-loop-passed g l = record {
  within : l.passed ≤ l.n;
  moved : (taken : List ℕ) × g.F.Feed.moves l.initial.feed l.feed taken × (l.fn.passed + length taken ≡ l.passed)
      × ((front : List ℕ) → length front ≡ l.fn.passed → l.fn.cleaned ≡ length (clean_of front)
      → l.cleaned ≡ length (clean_of (front ++ taken)));
  fewer : g.F.Feed.most l.feed ≤ g.F.Feed.most l.initial.feed;
}

abbrev pub decreases-loop-passed : goal.decreases-loop-passed
decreases-loop-passed g l = l.n - l.passed
