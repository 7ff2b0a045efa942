-- The value goes, and then the end of the line.
use Rattle.std.proofs.Common.{[], ◌∷◌}
use Rattle.serde_json.specs.Written.{compact_text}
use Rattle.dd_lines.proofs.GoingOn.{tells_then}
use Rattle.dd_json.specs.Values.{value_of}
use Rattle.dd_json.proofs.Steps.{first_fails}
use Rattle.dd_json.proofs.writing.add_json_line.Goals as goal

pub returns-in_err-add_json-clause-written : goal.returns-in_err-add_json-clause-written
returns-in_err-add_json-clause-written g c =
    first_fails c.from_residual.result (compact_text (value_of c.args.value.now)) (10 ∷ []) _ _ c.from_residual.ensures.0
    c.in_err-add_json.ensures.written

pub returns-clause-written : goal.returns-clause-written
returns-clause-written g c =
    tells_then c.add_end.result (compact_text (value_of c.args.value.now)) (10 ∷ []) _ _ _
    c.in_ok-add_json.ensures.written c.add_end.ensures.written
