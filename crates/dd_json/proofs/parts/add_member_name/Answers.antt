-- The name goes, and then the colon.
use Rattle.std.proofs.Common.{[], ◌∷◌}
use Rattle.json.specs.Print.{quoted}
use Rattle.dd_lines.proofs.GoingOn.{tells_then}
use Rattle.dd_json.proofs.Steps.{first_fails}
use Rattle.dd_json.proofs.parts.add_member_name.Goals as goal

pub returns-in_err-add_text-clause-written : goal.returns-in_err-add_text-clause-written
returns-in_err-add_text-clause-written g c =
    first_fails c.from_residual.result (quoted c.args.name.now) (58 ∷ []) _ _ c.from_residual.ensures.0
    c.in_err-add_text.ensures.written

pub returns-clause-written : goal.returns-clause-written
returns-clause-written g c =
    tells_then c.add_raw.result (quoted c.args.name.now) (58 ∷ []) _ _ _ c.in_ok-add_text.ensures.written
    c.add_raw.ensures.written
