use Rattle.std.proofs.Common.{◌<◌, ◌^◌, drop}
use Rattle.dd_set.specs.Views.{pieces}
use Rattle.dd_set.proofs.Counting.{CountsFragments}
use Rattle.dd_set.proofs.sizes.fragments_size.Given as goal

abbrev pub invariant-loop-fragment : goal.invariant-loop-fragment
invariant-loop-fragment l = record {
  counts : CountsFragments (pieces l.fragments) (pieces (drop l.fragment-index l.fragments)) l.total;
  fits : l.total < 2 ^ 64;
}
