use Rattle.std.proofs.Common.{◌≡◌, map, take}
use Rattle.dd_catalogue.proofs.carriers.carriers_of.Given as goal

abbrev pub invariant-loop-version : goal.invariant-loop-version
invariant-loop-version g l = l.carriers.items ≡ map (λ version. version.now) (take l.version-index l.versions)
