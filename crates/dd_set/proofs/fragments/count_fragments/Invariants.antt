use Rattle.std.proofs.Common.{◌≡◌, ℕ, ◌+◌, ◌<◌, ◌≤◌, List, length}
use Rattle.dd_set.specs.Places.{at_view}
use Rattle.dd_grammar.specs.Reading.{fragments_at, fragments_here}
use Rattle.dd_grammar.proofs.FragmentLaws.{with_fragments}
use Rattle.dd_set.proofs.fragments.count_fragments.Given as goal

-- the fragments read so far are `l.count` in number, and reading gives the others from here
abbrev pub invariant-fragments : goal.invariant-fragments
invariant-fragments l =
    (most : ℕ) × (front : List (List ℕ)) × (length l.place.rest.now < most) × (length front ≡ l.count)
    × (l.count + length l.place.rest.now ≤ length l.at.rest.now)
    × (with_fragments front (fragments_at most (at_view l.place)) ≡ fragments_here (at_view l.at))

abbrev pub decreases-fragments : goal.decreases-fragments
decreases-fragments l = length l.place.rest.now
