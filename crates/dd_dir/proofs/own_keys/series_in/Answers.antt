use Rattle.dd_set.specs.Views.{set_view}
use Rattle.dd_dir.proofs.CheckedRecords.{series_held}
use Rattle.dd_dir.proofs.own_keys.series_in.Goals as goal

pub uid-requires : goal.uid-requires
uid-requires c =
    let series = c.args.series.now in
    rw series.uid_is ((series_held (set_view series.set.now) c.requires).uid.suits)

pub key-requires : goal.key-requires
key-requires c =
    let series = c.args.series.now in
    rw series.modality_is ((series_held (set_view series.set.now) c.requires).modality.key)

pub key-requires-2 : goal.key-requires-2
key-requires-2 c =
    let series = c.args.series.now in
    rw series.number_is ((series_held (set_view series.set.now) c.requires).number.key)
