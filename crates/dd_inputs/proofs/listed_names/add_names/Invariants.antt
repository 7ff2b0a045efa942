-- These names were added, and the other parts are left.
use Rattle.std.proofs.Common.{length, map, string_bytes}
use Rattle.dd_inputs.proofs.HavingPaths.{NamesAdded}
use Rattle.dd_inputs.proofs.listed_names.add_names.Given as goal

abbrev pub invariant-loop-rest : goal.invariant-loop-rest
invariant-loop-rest l = NamesAdded l.keep_going l.list l.rest
    (map (λ path. string_bytes path) l.initial.all.paths.items) l.initial.all.bad_names.items
    (map (λ path. string_bytes path) l.all.paths.items) l.all.bad_names.items

abbrev pub decreases-loop-rest : goal.decreases-loop-rest
decreases-loop-rest l = length l.rest
