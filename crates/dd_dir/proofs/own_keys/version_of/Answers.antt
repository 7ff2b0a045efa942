use Rattle.dd_version.specs.Fitting.{Fits}
use Rattle.dd_dir.specs.OwnViews.{listed_view}
use Rattle.dd_dir.proofs.CheckedRecords.{version_fits}
use Rattle.dd_dir.proofs.own_keys.version_of.Goals as goal

pub unwrap-requires : goal.unwrap-requires
unwrap-requires c =
    let fits : Fits c.in_ok-parts.parts =
    rw c.in_ok-parts.ensures (version_fits (listed_view c.args.image.now) c.requires) in
    c.of.ensures.accepted.1 fits
