use Rattle.std.proofs.Common.{◌≡◌, map, take}
use Rattle.dd_layout.specs.WalkedRecords.{standing, standings}
use Rattle.dd_layout.proofs.order.in_path_order.Given as goal

abbrev pub invariant-loop-of : goal.invariant-loop-of
invariant-loop-of l = map standing l.placed.items ≡ standings 0 (take l.of l.versions)
