use Rattle.std.proofs.Common.{◌≡◌, ℕ, ◌<◌, List, length, slice_index}
use Rattle.sha2.specs.Sha256.{schedule}
use Rattle.sha256_lanes.specs.Lanes.{IsLoaded, lane_at}
use Rattle.sha256_lanes.proofs.compression.prepare_schedule.Given as goal

abbrev pub invariant-next : goal.invariant-next
invariant-next g l = (length l.w ≡ 64)
    × ((j : ℕ) (b : List ℕ) → j < g.row.N → IsLoaded l.fn.w j b
    → (k : ℕ) → k < l.t → lane_at l.w k j ≡ slice_index (schedule b 48) k)
