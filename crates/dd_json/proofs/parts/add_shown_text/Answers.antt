-- The first quote goes, then the text, then the last quote.
use Rattle.std.proofs.Common.{[], ◌∷◌, ◌++◌}
use Rattle.json.specs.Print.{escape}
use Rattle.dd_lines.specs.Telling.{shown}
use Rattle.dd_json.proofs.Steps.{first_fails, middle_fails, third_tells}
use Rattle.dd_json.proofs.parts.add_shown_text.Goals as goal

pub returns-in_err-add_bytes-clause-written : goal.returns-in_err-add_bytes-clause-written
returns-in_err-add_bytes-clause-written g c =
    first_fails c.from_residual.result (34 ∷ []) (escape (shown c.args.text.now) ++ 34 ∷ []) _ _ c.from_residual.ensures.0
    c.in_err-add_bytes.ensures.written

pub returns-in_err-add_shown_part-clause-written : goal.returns-in_err-add_shown_part-clause-written
returns-in_err-add_shown_part-clause-written g c =
    middle_fails c.from_residual-in_err-add_shown_part.result (34 ∷ []) (escape (shown c.args.text.now)) (34 ∷ []) _ _ _
    c.from_residual-in_err-add_shown_part.ensures.0 c.in_ok-add_bytes.ensures.written c.in_err-add_shown_part.ensures.written

pub returns-clause-written : goal.returns-clause-written
returns-clause-written g c =
    third_tells c.add_bytes-2.result (34 ∷ []) (escape (shown c.args.text.now)) (34 ∷ []) _ _ _ _
    c.in_ok-add_bytes.ensures.written c.in_ok-add_shown_part.ensures.written c.add_bytes-2.ensures.written
