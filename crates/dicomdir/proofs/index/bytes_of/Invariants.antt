-- The bytes of the sources so far are counted.
use Rattle.std.proofs.Common.{◌≡◌, take}
use Rattle.dicomdir.specs.FileSupply.{bytes_read}
use Rattle.dicomdir.proofs.index.bytes_of.Given as goal

abbrev pub invariant-loop-at : goal.invariant-loop-at
invariant-loop-at l = l.bytes ≡ bytes_read l.counts (take l.at-index l.picks)
