-- The comma, and then the value.
use Rattle.std.proofs.Common.{refl}
use Rattle.dd_dicom_json.proofs.Leaving.{first_fails, second_tells}
use Rattle.dd_dicom_json.proofs.ListTexts.{value_parts}
use Rattle.dd_dicom_json.proofs.texts.add_value.Goals as goal

pub returns-in_err-add_raw-clause-written : goal.returns-in_err-add_raw-clause-written
returns-in_err-add_raw-clause-written g c =
    first_fails c.from_residual.result _ c.comma.result.now _ _ _ c.from_residual.ensures.0
    (value_parts c.args.form c.args.set c.args.later c.comma.result.now c.args.value.now _ c.comma.ensures refl)
    c.in_err-add_raw.ensures.written

pub returns-clause-written : goal.returns-clause-written
returns-clause-written g c =
    second_tells c.add_kept.result _ c.comma.result.now _ _ _ _
    (value_parts c.args.form c.args.set c.args.later c.comma.result.now c.args.value.now c.trimmed.result.now
    c.comma.ensures c.trimmed.ensures)
    c.in_ok-add_raw.ensures.written c.add_kept.ensures.written
