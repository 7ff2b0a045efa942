-- One line more is printed.
use Rattle.std.proofs.Common.{arith, subst}
use Rattle.dicomdir.proofs.SaidLines.{said_more}
use Rattle.dicomdir.specs.Said.{IsNames}
use Rattle.dicomdir.proofs.note_lines.tell_names.Goals as goal

pub loop-patient-preserved : goal.loop-patient-preserved
loop-patient-preserved g c =
    let style = c.args.style in
    let told = c.in_ok-tell_names_of.ensures.told in
    said_more g.O.Write (IsNames style) c.args.patients.now c.loop-patient.patient-index c.patient-item.result told.0
    c.args.out.now c.loop-patient.out c.tell_names_of.new.out (omega (arith, c.loop-patient-test.true))
    c.loop-patient.invariant (subst (λ patient. IsNames style patient told.0) c.patient-item.is told.1) told.2
