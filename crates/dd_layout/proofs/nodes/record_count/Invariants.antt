use Rattle.std.proofs.Common.{◌≡◌, ◌+◌, ◌*◌, ◌≤◌, [], length, map}
use Rattle.std.specs.Prelude.{option_copied}
use Rattle.dd_layout.specs.WalkedRecords.{path_before, records_from, standing}
use Rattle.dd_layout.proofs.nodes.record_count.Given as goal

-- with the records of what is left there are the records of all, at most four of each version
abbrev pub invariant-loop-rest : goal.invariant-loop-rest
invariant-loop-rest l =
    (l.count + length (records_from (path_before (option_copied l.before)) (map standing l.rest))
    ≡ length (records_from [] (map standing l.placed)))
    × (l.count + 4 * length l.rest ≤ 4 * length l.placed)

abbrev pub decreases-loop-rest : goal.decreases-loop-rest
decreases-loop-rest l = length l.rest
