-- The bytes are those of the text.
use Rattle.json.specs.Print.{quoted}
use Rattle.dd_json.proofs.Steps.{tells_of}
use Rattle.dd_json.proofs.parts.add_text.Goals as goal

pub returns-clause-written : goal.returns-clause-written
returns-clause-written g c =
    tells_of c.add_quoted.result quoted c.as_bytes.result.now c.args.text.now _ _ c.as_bytes.ensures.value
    c.add_quoted.ensures.written
