use Rattle.std.proofs.Common.{◌≡◌, ℕ, ◌<◌, ◌*◌, length}
use Rattle.sha2.specs.Sha256.{word_at}
use Rattle.sha256_lanes.specs.Lanes.{lane_at, of_four}
use Rattle.sha256_lanes.proofs.four.compress4.Given as goal

abbrev pub invariant-load : goal.invariant-load
invariant-load l = (length l.w ≡ 64)
    × ((k j : ℕ) → k < l.t → j < 4 → lane_at l.w k j ≡ word_at (of_four l.b0 l.b1 l.b2 l.b3 j) (4 * k))
