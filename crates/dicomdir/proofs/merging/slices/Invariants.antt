-- The slices so far are the bytes of the first directories.
use Rattle.std.proofs.Common.{◌≡◌, length, map, take}
use Rattle.dicomdir.proofs.merging.slices.Given as goal

abbrev pub invariant-loop-bytes : goal.invariant-loop-bytes
invariant-loop-bytes l = (length l.slices.items ≡ l.bytes-index)
    × (map (λ slice. slice.now) l.slices.items ≡ map (λ bytes. bytes.items) (take l.bytes-index l.all))
