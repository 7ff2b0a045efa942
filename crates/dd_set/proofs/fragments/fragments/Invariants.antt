use Rattle.std.proofs.Common.{◌≡◌, ℕ, ◌<◌, ◌≤◌, length}
use Rattle.dd_set.specs.Places.{at_view}
use Rattle.dd_grammar.specs.Reading.{fragments_at, fragments_here}
use Rattle.dd_set.specs.Views.{pieces}
use Rattle.dd_grammar.proofs.FragmentLaws.{with_fragments}
use Rattle.dd_set.proofs.fragments.fragments.Given as goal

-- the fragments so far and those that reading gives from here are those that it gives from the start
abbrev pub invariant-fragments : goal.invariant-fragments
invariant-fragments l =
    (most : ℕ) × (length l.place.rest.now < most) × (length l.place.rest.now ≤ length l.at.rest.now)
    × (with_fragments (pieces l.fragments.items) (fragments_at most (at_view l.place)) ≡ fragments_here (at_view l.at))

abbrev pub decreases-fragments : goal.decreases-fragments
decreases-fragments l = length l.place.rest.now
