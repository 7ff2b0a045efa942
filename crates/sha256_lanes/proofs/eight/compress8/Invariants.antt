use Rattle.std.proofs.Common.{◌≡◌, ℕ, ◌<◌, ◌*◌, length}
use Rattle.sha2.specs.Sha256.{word_at}
use Rattle.sha256_lanes.specs.Lanes.{lane_at, of_eight}
use Rattle.sha256_lanes.proofs.eight.compress8.Given as goal

abbrev pub invariant-load : goal.invariant-load
invariant-load l = (length l.w ≡ 64)
    × ((k j : ℕ) → k < l.t → j < 8 → lane_at l.w k j
    ≡ word_at (of_eight l.front.0.now l.front.1.now l.front.2.now l.front.3.now
    l.back.0.now l.back.1.now l.back.2.now l.back.3.now j) (4 * k))
