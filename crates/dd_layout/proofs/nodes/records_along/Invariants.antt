use Rattle.std.proofs.Common.{◌≡◌, [], ◌++◌, length, map}
use Rattle.std.specs.Prelude.{option_copied}
use Rattle.dd_layout.specs.WalkedRecords.{path_before, records_from, standing}
use Rattle.dd_layout.proofs.nodes.records_along.Given as goal

-- with the records of what is left there are the records of all
abbrev pub invariant-loop-rest : goal.invariant-loop-rest
invariant-loop-rest l =
    l.records.items ++ records_from (path_before (option_copied l.before)) (map standing l.rest)
    ≡ records_from [] (map standing l.placed)

abbrev pub decreases-loop-rest : goal.decreases-loop-rest
decreases-loop-rest l = length l.rest
