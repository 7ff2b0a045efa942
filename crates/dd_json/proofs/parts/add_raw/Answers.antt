-- The bytes of the text went, or the writer failed in them.
use Rattle.dd_json.proofs.Steps.{tells_same}
use Rattle.dd_json.proofs.parts.add_raw.Goals as goal

pub returns-clause-written : goal.returns-clause-written
returns-clause-written g c =
    tells_same c.add.result c.as_bytes.result.now c.args.text.now _ _ c.as_bytes.ensures.value c.add.ensures.sent
    c.add.ensures.unsent
