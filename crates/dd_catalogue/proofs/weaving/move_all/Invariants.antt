use Rattle.std.proofs.Common.{◌≡◌, ◌+◌, ◌++◌, length, vec_len, vec_capacity}
use Rattle.dd_catalogue.proofs.weaving.move_all.Given as goal

abbrev pub invariant-loop-value : goal.invariant-loop-value
invariant-loop-value g l = record {
  items : l.both.items ++ l.values.items ≡ l.fn.both.items ++ l.fn.values.items;
  len : vec_len l.both + length l.values.items ≡ vec_len l.fn.both + length l.fn.values.items;
  capacity : vec_capacity l.both ≡ vec_capacity l.fn.both;
}

abbrev pub decreases-loop-value : goal.decreases-loop-value
decreases-loop-value g l = length l.values.items
