-- The members of bytes that have no form.
use Rattle.std.proofs.Common.{◌∙◌, sym}
use Rattle.dd_dicom_json.proofs.Leaving.{tells_same}
use Rattle.dd_dicom_json.proofs.ListTexts.{unread_parts}
use Rattle.dd_dicom_json.proofs.values.add_unread.Goals as goal

pub returns-clause-written : goal.returns-clause-written
returns-clause-written g c =
    tells_same c.add_parts.result _ _ _ _
    (unread_parts c.args.vr c.args.bytes.now (sym c.is_empty.ensures ∙ c.if-is_empty.false)) c.add_parts.ensures.written
