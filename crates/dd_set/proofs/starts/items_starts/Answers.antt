use Rattle.std.proofs.Common.{◌≡◌, ℕ, List, Some, ◌++◌, ◌≤◌, length, sym, ap, ◌∙◌, arith, append-nil}
use Rattle.dd_set.specs.Views.{items_view}
use Rattle.dd_set.proofs.Counting.{items_view-end}
use Rattle.dd_set.proofs.Places.{item_places-sums, starts_from}
use Rattle.dd_set.proofs.starts.items_starts.Goals as goal

pub returns-clause-places : goal.returns-clause-places
returns-clause-places c = λ front is.
    let parts = c.args.items.now in
    let past : length parts ≤ c.loop-item.item-index = omega arith in
    let ended : c.loop-item.starts.items ≡ starts_from c.args.first (items_view parts) =
    sym (append-nil c.loop-item.starts.items) ∙ sym (ap (λ rest. c.loop-item.starts.items
    ++ starts_from c.loop-item.at rest) (items_view-end parts c.loop-item.item-index past))
    ∙ c.loop-item.invariant.so_far in
    ap (λ (xs : List ℕ). Some xs) (ended ∙ ap (λ (n : ℕ). starts_from n (items_view c.args.items.now)) (sym is)
    ∙ sym (item_places-sums front (items_view c.args.items.now)))
