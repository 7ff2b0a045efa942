use Rattle.std.proofs.Common.{◌≡◌, ◌++◌, map, Some}
use Rattle.std.specs.Vec.Iter.{into_iter_items}
use Rattle.dd_encoding.specs.Elements.{Elements}
use Rattle.dd_set.specs.Views.{items_view}
use Rattle.dd_walk.specs.Saying.{sets_of}
use Rattle.dd_walk.specs.Pending.{pending_view}
use Rattle.dd_walk.proofs.pending.pending_of.Given as goal

abbrev pub invariant-loop-item : goal.invariant-loop-item
invariant-loop-item l =
    pending_view l.pending.items ++ map (λ (set : Elements). Some set)
    (sets_of (items_view (into_iter_items l.item-iterator)))
    ≡ map (λ (set : Elements). Some set) (sets_of (items_view l.fn.items.items))
