use Rattle.std.proofs.Common.{◌≡◌, ◌++◌, drop, map, take}
use Rattle.dd_catalogue.specs.Changes.{with_changes}
use Rattle.dd_catalogue.specs.Harmony.{agreed}
use Rattle.dd_catalogue.proofs.harmony.changes_by.Given as goal

-- the versions so far are in harmony
abbrev pub invariant-loop-index : goal.invariant-loop-index
invariant-loop-index l = let m = map (λ version. version.now) l.versions in
    with_changes l.list.items m ≡ map (agreed m) (take l.index m) ++ drop l.index m
