use Rattle.std.proofs.Common.{◌≡◌, length, map}
use Rattle.dd_layout.specs.WalkedRecords.{front_of, least_run, standing}
use Rattle.dd_layout.proofs.nodes.least_below.Given as goal

-- what is left has the least place that the whole has
abbrev pub invariant-loop-rest : goal.invariant-loop-rest
invariant-loop-rest l =
    least_run (front_of l.level l.first.version.now) l.least (map standing l.rest)
    ≡ least_run (front_of l.level l.first.version.now) l.first.of (map standing l.later)

abbrev pub decreases-loop-rest : goal.decreases-loop-rest
decreases-loop-rest l = length l.rest
