-- The bytes of the copies so far are counted.
use Rattle.std.proofs.Common.{◌≡◌, take}
use Rattle.dicomdir.specs.Publishes.{placed_bytes}
use Rattle.dicomdir.proofs.publishing.bytes_of.Given as goal

abbrev pub invariant-loop-at : goal.invariant-loop-at
invariant-loop-at l = l.bytes ≡ placed_bytes l.places (take l.at-index l.picks)
