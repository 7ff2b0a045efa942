use Rattle.std.proofs.Common.{◌≡◌, map, take}
use Rattle.dd_dir.specs.OwnVersions.{file_of}
use Rattle.dd_dir.specs.OwnViews.{listed_view}
use Rattle.dd_dir.proofs.own.files.Given as goal

abbrev pub invariant-loop-image : goal.invariant-loop-image
invariant-loop-image l =
    map (λ file. file.now) l.files.items ≡ map file_of (map listed_view (take l.image-index l.images))
