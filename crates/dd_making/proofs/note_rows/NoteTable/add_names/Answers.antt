-- One note more was added.
use Rattle.std.proofs.Common.{arith}
use Rattle.dd_making.specs.Notes.{names_row, names_texts}
use Rattle.dd_making.proofs.PutNotes.{went_all, went_more}
use Rattle.dd_making.proofs.note_rows.NoteTable.add_names.Goals as goal

pub loop-patient-preserved : goal.loop-patient-preserved
loop-patient-preserved c =
    went_more names_row names_texts c.args.patients.now c.loop-patient.patient-index c.patient-item.result _ _ _
    c.loop-patient-test.true c.patient-item.is c.loop-patient.invariant c.in_ok-add_patient.ensures

pub returns : goal.returns
returns c =
    went_all names_row names_texts c.args.patients.now c.loop-patient.patient-index _ _ (omega arith)
    c.loop-patient.invariant
