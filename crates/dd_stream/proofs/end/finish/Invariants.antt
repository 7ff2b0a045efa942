use Rattle.std.proofs.Common.{◌≡◌, List, ℕ}
use Rattle.dd_stream.specs.Streams.{Moves, most_of, position_of}
use Rattle.dd_stream.proofs.end.finish.Given as goal

abbrev pub invariant-pieces : goal.invariant-pieces
invariant-pieces g l = (l.stream.reader.ghost_name ≡ l.initial.stream.reader.ghost_name)
    × ((taken : List ℕ) × Moves g.R.Read l.initial.stream.reader.now l.stream.reader.now
    (position_of l.initial.stream) (position_of l.stream) taken)

abbrev pub decreases-pieces : goal.decreases-pieces
decreases-pieces g l = most_of (position_of l.stream)
