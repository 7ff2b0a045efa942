use Rattle.std.proofs.Common.{◌≡◌, filter, map, nat_lt, take}
use Rattle.std.specs.List.{enumerate_from}
use Rattle.dd_engine.proofs.set_notes.unreached_sets.Given as goal

-- the notes of the sets so far
abbrev pub invariant-loop-set : goal.invariant-loop-set
invariant-loop-set l = map (λ note. (note.set, note.records)) l.sets.items
    ≡ filter (λ set. nat_lt 0 set.1) (enumerate_from 0 (take l.set l.counts))
