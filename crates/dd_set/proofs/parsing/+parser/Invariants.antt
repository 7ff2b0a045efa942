-- Each call is to a function further down the list, or into an item, where one level less is left.
use Rattle.std.proofs.Common.{◌≡◌, ℕ, ◌+◌, ◌*◌, ◌<◌, ◌≤◌, ◌⊎◌, Err, length, map}
use Rattle.dd_grammar.specs.Reading.{item_reader, sequence_with, set_with, items_at, elements_at}
use Rattle.dd_set.specs.Memory.{unkept_sequence, unkept_set, unkept_item}
use Rattle.dd_grammar.specs.declared.fault.SetFault.TheVariants.{Memory}
use Rattle.dd_set.specs.Places.{at_view}
use Rattle.dd_set.specs.Views.{item_view, element_view}
use Rattle.dd_grammar.proofs.Loops.{with_items, with_elements}
use Rattle.dd_set.proofs.parsing.+parser.Given as goal

abbrev pub decreases-part : goal.decreases-part
decreases-part l = 8 * l.levels

abbrev pub decreases-item : goal.decreases-item
decreases-item l = 8 * l.levels + 1

abbrev pub decreases-sequence : goal.decreases-sequence
decreases-sequence l = 8 * l.levels + 2

abbrev pub decreases-content : goal.decreases-content
decreases-content l = 8 * l.levels + 3

abbrev pub decreases-set : goal.decreases-set
decreases-set l = 8 * l.levels + 4

-- the items so far and those that reading gives from here are those that it gives from the start; nothing was read
-- yet, or memory is wanted
abbrev pub invariant-sequence-items : goal.invariant-sequence-items
invariant-sequence-items l =
    (most : ℕ) × (length l.place.rest.now < most) × (length l.place.rest.now ≤ length l.at.rest.now)
    × (with_items (map item_view l.items.items) (items_at (item_reader l.levels) l.syntax l.form most (at_view l.place))
    ≡ sequence_with (item_reader l.levels) l.syntax l.form (at_view l.at))
    × ((at_view l.place ≡ at_view l.at) ⊎ (unkept_sequence (unkept_item l.levels) l.syntax l.form (at_view l.at)
    ≡ Err Memory))

abbrev pub decreases-sequence-items : goal.decreases-sequence-items
decreases-sequence-items l = length l.place.rest.now

-- the same of elements
abbrev pub invariant-set-elements : goal.invariant-set-elements
invariant-set-elements l =
    (most : ℕ) × (length l.place.rest.now < most) × (length l.place.rest.now ≤ length l.at.rest.now)
    × (with_elements (map element_view l.elements.items) (elements_at (sequence_with (item_reader l.levels)) l.syntax
    l.form most l.low (at_view l.place)) ≡ set_with (item_reader l.levels) l.syntax l.form (at_view l.at))
    × ((l.low ≡ 0) × (at_view l.place ≡ at_view l.at) ⊎ (unkept_set (unkept_item l.levels) l.syntax l.form
    (at_view l.at) ≡ Err Memory))

abbrev pub decreases-set-elements : goal.decreases-set-elements
decreases-set-elements l = length l.place.rest.now
