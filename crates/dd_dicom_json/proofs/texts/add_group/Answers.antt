-- The member, where the group has characters.
use Rattle.std.proofs.Common.{◌∙◌, sym}
use Rattle.dd_dicom_json.specs.Parts.{characters_of}
use Rattle.dd_dicom_json.proofs.Leaving.{tells_same}
use Rattle.dd_dicom_json.proofs.ListTexts.{group_parts}
use Rattle.dd_dicom_json.proofs.texts.add_group.Goals as goal

pub returns-clause-written : goal.returns-clause-written
returns-clause-written g c =
    tells_same c.add_parts.result _ _ _ _
    (group_parts c.args.set c.args.later c.comma.result.now c.args.name.now c.args.group.now
    (characters_of c.text_in.result) c.comma.ensures c.text_in.ensures (sym c.is_empty.ensures ∙ c.if-is_empty.false))
    c.add_parts.ensures.written
