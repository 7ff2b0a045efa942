use Rattle.std.proofs.Common.{◌≡◌, ◌≤◌, ◌++◌, filter, length}
use Rattle.dd_engine.specs.Namings.{grouped, has_several}
use Rattle.dd_engine.proofs.patient_names.of_several_names.Given as goal

-- the patients so far, and then the patients of the rest, are the patients of all namings
abbrev pub invariant-loop-rest : goal.invariant-loop-rest
invariant-loop-rest l =
    (filter has_several (grouped l.namings) ≡ l.patients.items ++ filter has_several (grouped l.rest))
    × (length l.rest ≤ length l.namings)

abbrev pub decreases-loop-rest : goal.decreases-loop-rest
decreases-loop-rest l = length l.rest
