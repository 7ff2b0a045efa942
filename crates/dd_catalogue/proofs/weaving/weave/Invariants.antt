use Rattle.std.proofs.Common.{◌≡◌, ◌+◌, ◌≤◌, ◌++◌, length, vec_len, vec_capacity}
use Rattle.dd_elem.specs.Ordered.{bytes_cmp}
use Rattle.dd_catalogue.specs.Best.{IsRising, best}
use Rattle.dd_catalogue.specs.Compared.{compared}
use Rattle.dd_catalogue.proofs.weaving.weave.Given as goal

abbrev pub invariant-loop-value : goal.invariant-loop-value
invariant-loop-value g l = record {
  mine : IsRising g.T.Keyed.key_of bytes_cmp l.mine.items;
  theirs : IsRising g.T.Keyed.key_of bytes_cmp l.theirs.items;
  room : vec_len l.both + (length l.mine.items + length l.theirs.items) ≤ vec_capacity l.both;
  few : l.count ≤ vec_len l.both;
  items : l.both.items ++ best g.T.Keyed.key_of bytes_cmp g.T.Ordered.order (l.mine.items ++ l.theirs.items)
      ≡ l.fn.both.items ++ best g.T.Keyed.key_of bytes_cmp g.T.Ordered.order (l.fn.own.items ++ l.fn.other.items);
  count : l.count + compared g.T.Keyed.key_of bytes_cmp g.T.Ordered.order l.mine.items l.theirs.items
      ≡ compared g.T.Keyed.key_of bytes_cmp g.T.Ordered.order l.fn.own.items l.fn.other.items;
}

abbrev pub decreases-loop-value : goal.decreases-loop-value
decreases-loop-value g l = length l.mine.items + length l.theirs.items
