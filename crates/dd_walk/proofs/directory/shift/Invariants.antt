use Rattle.std.proofs.Common.{◌≡◌, ℕ, ◌+◌, ◌<◌, ◌≤◌, get_or}
use Rattle.dd_walk.proofs.directory.shift.Given as goal

abbrev pub invariant-loop-start : goal.invariant-loop-start
invariant-loop-start l = record {
  moved : (k : ℕ) → k < l.start-index → get_or l.starts k 0 ≡ get_or l.initial.starts k 0 + l.by;
  kept : (k : ℕ) → l.start-index ≤ k → get_or l.starts k 0 ≡ get_or l.initial.starts k 0;
}
