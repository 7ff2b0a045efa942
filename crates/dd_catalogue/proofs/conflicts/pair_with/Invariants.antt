use Rattle.std.proofs.Common.{◌≡◌, drop, find, map}
use Rattle.dd_catalogue.specs.Conflicts.{conflicts}
use Rattle.dd_catalogue.proofs.conflicts.pair_with.Given as goal

abbrev pub invariant-loop-other : goal.invariant-loop-other
invariant-loop-other l = find (conflicts l.version) (map (λ other. other.now) (drop l.other-index l.others))
    ≡ find (conflicts l.version) (map (λ other. other.now) l.others)
