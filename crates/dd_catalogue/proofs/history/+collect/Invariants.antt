use Rattle.std.proofs.Common.{◌≡◌, ◌++◌, take, map}
use Rattle.dd_catalogue.specs.Histories.{taken, together}
use Rattle.dd_catalogue.proofs.history.+collect.Given as goal

abbrev pub invariant-loop-version : goal.invariant-loop-version
invariant-loop-version l = map (λ version. version.now) l.versions.items ≡ map
    (λ version. version.now) l.fn.versions.items ++ take l.version-index l.version-items

abbrev pub invariant-loop-uid : goal.invariant-loop-uid
invariant-loop-uid l = map (λ uid. uid.now) l.withdrawn.items ≡ map
    (λ uid. uid.now) l.fn.withdrawn.items ++ take l.uid-index l.uid-items

abbrev pub invariant-loop-part : goal.invariant-loop-part
invariant-loop-part l = record {
  versions : map (λ version. version.now) l.versions.items ≡ map (λ version. version.now) l.fn.versions.items
      ++ together (map (λ c. c.versions) (map taken (take l.part-index l.part-items)));
  withdrawn : map (λ uid. uid.now) l.withdrawn.items ≡ map (λ uid. uid.now) l.fn.withdrawn.items
      ++ together (map (λ c. c.withdrawn) (map taken (take l.part-index l.part-items)));
}
