use Rattle.std.proofs.Common.{ℕ, ◌<◌}
use Rattle.sha256_lanes.specs.Lanes.{lane, of_eight}
use Rattle.sha256_lanes.proofs.Runs.{HasRun}
use Rattle.sha256_lanes.proofs.eight.digest_in_lanes.Given as goal

abbrev pub invariant-run : goal.invariant-run
invariant-run l = (j : ℕ) → j < 8
    → HasRun (of_eight l.front.0.now l.front.1.now l.front.2.now l.front.3.now l.back.0.now l.back.1.now l.back.2.now
    l.back.3.now j) l.i (lane j l.hash) (of_eight l.fronts.0 l.fronts.1 l.fronts.2 l.fronts.3 l.backs.0 l.backs.1
    l.backs.2 l.backs.3 j)
