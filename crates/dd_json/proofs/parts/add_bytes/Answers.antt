-- The bytes went, or the writer failed in them.
use Rattle.dd_lines.proofs.GoingOn.{tells_both}
use Rattle.dd_json.proofs.parts.add_bytes.Goals as goal

pub returns-clause-written : goal.returns-clause-written
returns-clause-written g c = tells_both c.add.result _ _ _ c.add.ensures.sent c.add.ensures.unsent
