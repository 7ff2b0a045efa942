use Rattle.dd_dir.specs.OwnViews.{listed_view}
use Rattle.dd_dir.proofs.CheckedRecords.{class_is_uid, image_held, transfer_is_uid}
use Rattle.dd_dir.proofs.own_keys.parts_of.Goals as goal

pub key-requires : goal.key-requires
key-requires c =
    let image = listed_view c.args.image.now in
    rw c.row_value.ensures (image_held image.own c.requires.own).number.key

pub uid-requires : goal.uid-requires
uid-requires c =
    let image = listed_view c.args.image.now in
    rw c.row_value-2.ensures (class_is_uid image.own (image_held image.own c.requires.own).class)

pub uid-requires-2 : goal.uid-requires-2
uid-requires-2 c =
    let image = listed_view c.args.image.now in
    rw c.row_value-3.ensures (transfer_is_uid image.own (image_held image.own c.requires.own).transfer)

pub uid-requires-3 : goal.uid-requires-3
uid-requires-3 c =
    let image = listed_view c.args.image.now in
    rw c.row_value-4.ensures (image_held image.own c.requires.own).instance.suits
