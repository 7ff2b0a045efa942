use Rattle.std.proofs.Common.{◌<◌, ◌^◌, drop}
use Rattle.dd_set.specs.Views.{elements_view, items_view}
use Rattle.dd_set.proofs.Counting.{CountsElements, CountsItems}
use Rattle.dd_set.proofs.sizes.+sizes.Given as goal

abbrev pub invariant-items_size-loop-item : goal.invariant-items_size-loop-item
invariant-items_size-loop-item l = record {
  counts : CountsItems l.syntax l.levels (items_view l.items) (items_view (drop l.item-index l.items)) l.total;
  fits : l.total < 2 ^ 64;
}

abbrev pub invariant-set_size-loop-element : goal.invariant-set_size-loop-element
invariant-set_size-loop-element l = record {
  counts : CountsElements l.syntax l.levels (elements_view l.element-items)
      (elements_view (drop l.element-index l.element-items)) l.low l.total;
  fits : l.total < 2 ^ 64;
}
