use Rattle.std.proofs.Common.{◌≡◌}
use Rattle.std.specs.Vec.Iter.{into_iter_items}
use Rattle.dd_set.specs.Views.{set_view, elements_view}
use Rattle.dd_walk.proofs.Sequences.{items_in}
use Rattle.dd_walk.proofs.pending.items_of.Given as goal

abbrev pub invariant-loop-element : goal.invariant-loop-element
invariant-loop-element l =
    items_in l.tag (elements_view (into_iter_items l.element-iterator)) ≡ items_in l.tag (set_view l.fn.set)
