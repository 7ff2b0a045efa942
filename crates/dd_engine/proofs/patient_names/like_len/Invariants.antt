use Rattle.std.proofs.Common.{◌≡◌, ◌+◌, drop}
use Rattle.std.specs.List.{prefix_len}
use Rattle.dd_engine.specs.Namings.{has_id}
use Rattle.dd_engine.proofs.patient_names.like_len.Given as goal

-- the namings so far are all counted, and those at the front of the rest are still to be counted
abbrev pub invariant-loop-naming : goal.invariant-loop-naming
invariant-loop-naming l = (l.len ≡ l.naming-index)
    × (prefix_len (has_id l.id) l.namings ≡ l.naming-index + prefix_len (has_id l.id) (drop l.naming-index l.namings))
