use Rattle.std.proofs.Common.{◌≡◌, ◌++◌, map, take}
use Rattle.dd_engine.specs.Merging.{pick_view}
use Rattle.dd_engine.proofs.gathering.add_origins.Given as goal

abbrev pub invariant-loop-file : goal.invariant-loop-file
invariant-loop-file l = map (λ pick. pick_view pick) l.to.items
    ≡ map (λ pick. pick_view pick) l.fn.to.items
    ++ map (λ file. (l.fn.at, file.now)) (take l.file-index l.files)
