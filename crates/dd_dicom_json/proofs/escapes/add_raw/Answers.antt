-- The bytes went, or the writer failed in them.
use Rattle.dd_lines.proofs.GoingOn.{tells_both}
use Rattle.dd_dicom_json.proofs.escapes.add_raw.Goals as goal

pub returns-clause-written : goal.returns-clause-written
returns-clause-written g c = tells_both c.add.result c.args.bytes.now _ _ c.add.ensures.sent c.add.ensures.unsent
