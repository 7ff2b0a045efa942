use Rattle.dd_set.specs.Views.{set_view}
use Rattle.dd_dir.proofs.CheckedRecords.{patient_held}
use Rattle.dd_dir.proofs.own_keys.patient_in.Goals as goal

pub key-requires : goal.key-requires
key-requires c =
    let patient = c.args.patient.now in
    rw patient.id_is ((patient_held (set_view patient.set.now) c.requires).id.key)

pub key-requires-2 : goal.key-requires-2
key-requires-2 c =
    let patient = c.args.patient.now in
    rw patient.name_is ((patient_held (set_view patient.set.now) c.requires).name.key)

pub key-requires-3 : goal.key-requires-3
key-requires-3 c =
    let patient = c.args.patient.now in
    rw patient.charset_is ((patient_held (set_view patient.set.now) c.requires).charset.key)
