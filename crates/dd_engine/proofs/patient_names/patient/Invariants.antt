use Rattle.std.proofs.Common.{◌≡◌, ◌∷◌, map, take}
use Rattle.dd_engine.proofs.patient_names.patient.Given as goal

-- the names so far
abbrev pub invariant-loop-naming : goal.invariant-loop-naming
invariant-loop-naming l = l.names.items ≡ l.first.name ∷ map (λ n. n.name) (take l.naming-index l.like)
