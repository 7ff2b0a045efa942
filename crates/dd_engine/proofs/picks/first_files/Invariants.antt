use Rattle.std.proofs.Common.{◌≡◌, Some, map, take}
use Rattle.std.specs.List.{zip}
use Rattle.dd_engine.specs.Picking.{file_of, files_of, found}
use Rattle.dd_engine.proofs.picks.first_files.Given as goal

-- a file of each kept version so far
abbrev pub invariant-loop-version : goal.invariant-loop-version
invariant-loop-version g l = map (λ file. Some file) l.files.items
    ≡ map (λ version. found (files_of (zip l.origins l.versions)) (file_of version.now)) (take l.version-index l.list)
