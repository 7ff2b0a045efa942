use Rattle.dd_dir.specs.OwnViews.{listed_view}
use Rattle.dd_dir.proofs.CheckedRecords.{image_held}
use Rattle.dd_dir.proofs.own.place_of.Goals as goal

pub uid-requires : goal.uid-requires
uid-requires c =
    let image = listed_view c.args.image.now in
    rw c.row_value.ensures (image_held image.own c.requires.own).instance.suits
