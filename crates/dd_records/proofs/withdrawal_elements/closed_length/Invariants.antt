use Rattle.std.proofs.Common.{◌≡◌, ◌+◌, ◌*◌, ◌≤◌, length, sum_by}
use Rattle.std.specs.List.{AllByRecursion}
use Rattle.dd_elem.specs.Uid.{IsUid}
use Rattle.dd_records.proofs.WithdrawalElements.{closed}
use Rattle.dd_records.proofs.withdrawal_elements.closed_length.Given as goal

-- with the UIDs that are left there are the bytes of all, and all are UIDs where those are
abbrev pub invariant-loop-withdrawn : goal.invariant-loop-withdrawn
invariant-loop-withdrawn l =
    (l.length + sum_by closed l.withdrawn ≡ sum_by closed l.initial.withdrawn)
    × (l.length + 65 * length l.withdrawn ≤ 65 * length l.initial.withdrawn)
    × (AllByRecursion IsUid l.withdrawn → AllByRecursion IsUid l.initial.withdrawn)

abbrev pub decreases-loop-withdrawn : goal.decreases-loop-withdrawn
decreases-loop-withdrawn l = length l.withdrawn
