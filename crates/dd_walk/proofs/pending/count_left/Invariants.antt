use Rattle.std.proofs.Common.{◌≡◌, ◌+◌, ◌≤◌, drop}
use Rattle.dd_walk.specs.Pending.{count_left, pending_view}
use Rattle.dd_walk.proofs.pending.count_left.Given as goal

abbrev pub invariant-loop-item : goal.invariant-loop-item
invariant-loop-item l = record {
  few : l.count ≤ l.item-index;
  so_far : l.count + count_left (pending_view (drop l.item-index l.pending)) ≡ count_left (pending_view l.pending);
}
