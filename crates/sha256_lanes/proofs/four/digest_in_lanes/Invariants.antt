use Rattle.std.proofs.Common.{ℕ, ◌<◌}
use Rattle.sha256_lanes.specs.Lanes.{lane, of_four}
use Rattle.sha256_lanes.proofs.Runs.{HasRun}
use Rattle.sha256_lanes.proofs.four.digest_in_lanes.Given as goal

abbrev pub invariant-run : goal.invariant-run
invariant-run l = (j : ℕ) → j < 4
    → HasRun (of_four l.a l.b l.c l.d j) l.i (lane j l.hash) (of_four l.digests.0 l.digests.1 l.digests.2 l.digests.3 j)
