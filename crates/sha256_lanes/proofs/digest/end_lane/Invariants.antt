use Rattle.std.proofs.Common.{◌≡◌, ◌*◌, length, take}
use Rattle.sha2.specs.Sha256.{digest_bytes}
use Rattle.sha256_lanes.specs.Lanes.{lane}
use Rattle.sha256_lanes.proofs.digest.end_lane.Given as goal

abbrev pub invariant-words : goal.invariant-words
invariant-words g l = (length l.digest ≡ 32) × (take (4 * l.k) l.digest ≡ digest_bytes (lane l.j l.hash) l.k)
