use Rattle.std.proofs.Common.{◌≡◌, length, map}
use Rattle.dd_catalogue.specs.Conflicts.{first_conflict}
use Rattle.dd_catalogue.proofs.Members.{Member}
use Rattle.dd_catalogue.proofs.conflicts.conflict_among.Given as goal

abbrev pub invariant-loop-later : goal.invariant-loop-later
invariant-loop-later l = record {
  same : first_conflict (map (λ version. version.now) l.later)
      ≡ first_conflict (map (λ version. version.now) l.versions);
  within : (v : _) → Member v (map (λ version. version.now) l.later)
      → Member v (map (λ version. version.now) l.versions);
}

abbrev pub decreases-loop-later : goal.decreases-loop-later
decreases-loop-later l = length l.later
