use Rattle.std.proofs.Common.{◌≡◌, length}
use Rattle.dd_elem.specs.Clean.{clean_of}
use Rattle.dd_elem.proofs.padding.clean.Given as goal

abbrev pub invariant-loop-kept : goal.invariant-loop-kept
invariant-loop-kept l = clean_of l.kept ≡ clean_of l.bytes

abbrev pub decreases-loop-kept : goal.decreases-loop-kept
decreases-loop-kept l = length l.kept
