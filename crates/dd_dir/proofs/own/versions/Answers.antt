use Rattle.dd_dir.specs.OwnVersions.{version_of}
use Rattle.dd_dir.proofs.ListedImages.{one_more}
use Rattle.dd_dir.proofs.own.versions.Goals as goal

pub loop-image-preserved : goal.loop-image-preserved
loop-image-preserved c =
    one_more version_of c.args.images.now c.loop-image.image-index c.image-item.result c.loop-image.versions.items
    c.push.new.self.items c.in_ok-version.version c.loop-image-test.true c.image-item.is c.loop-image.invariant
    c.in_ok-push.ensures.items c.in_ok-version.ensures
