use Rattle.dd_set.specs.Views.{set_view}
use Rattle.dd_dir.proofs.CheckedRecords.{study_held}
use Rattle.dd_dir.proofs.own_keys.study_in.Goals as goal

pub uid-requires : goal.uid-requires
uid-requires c =
    let study = c.args.study.now in
    rw study.uid_is ((study_held (set_view study.set.now) c.requires).uid.suits)

pub key-requires : goal.key-requires
key-requires c =
    let study = c.args.study.now in
    rw study.date_is ((study_held (set_view study.set.now) c.requires).date.key)

pub key-requires-2 : goal.key-requires-2
key-requires-2 c =
    let study = c.args.study.now in
    rw study.time_is ((study_held (set_view study.set.now) c.requires).time.key)

pub key-requires-3 : goal.key-requires-3
key-requires-3 c =
    let study = c.args.study.now in
    rw study.accession_is ((study_held (set_view study.set.now) c.requires).accession.key)

pub key-requires-4 : goal.key-requires-4
key-requires-4 c =
    let study = c.args.study.now in
    rw study.description_is ((study_held (set_view study.set.now) c.requires).description.key)

pub key-requires-5 : goal.key-requires-5
key-requires-5 c =
    let study = c.args.study.now in
    rw study.id_is ((study_held (set_view study.set.now) c.requires).id.key)

pub key-requires-6 : goal.key-requires-6
key-requires-6 c =
    let study = c.args.study.now in
    rw study.charset_is ((study_held (set_view study.set.now) c.requires).charset.key)
