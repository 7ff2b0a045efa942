use Rattle.std.proofs.Common.{◌≡◌, map, take}
use Rattle.dd_dir.specs.OwnVersions.{version_of}
use Rattle.dd_dir.specs.OwnViews.{listed_view}
use Rattle.dd_dir.proofs.own.versions.Given as goal

abbrev pub invariant-loop-image : goal.invariant-loop-image
invariant-loop-image l = l.versions.items ≡ map version_of (map listed_view (take l.image-index l.images))
