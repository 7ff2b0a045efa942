-- The number between its brackets.
use Rattle.std.proofs.Common.{refl, sym}
use Rattle.serde_json.specs.Written.{number_text}
use Rattle.dd_dicom_json.specs.Numbers.{num_of}
use Rattle.dd_dicom_json.proofs.Leaving.{tells_same}
use Rattle.dd_dicom_json.proofs.NumberTexts.{integer_text}
use Rattle.dd_dicom_json.proofs.values.add_integer.Goals as goal

pub returns-clause-written : goal.returns-clause-written
returns-clause-written g c =
    tells_same c.add_parts.result _ _ _ _
    (sym (integer_text c.args.vr (num_of c.args.number) (number_text (num_of c.args.number)) refl))
    c.add_parts.ensures.written
