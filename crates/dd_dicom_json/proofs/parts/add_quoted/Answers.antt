-- A quote, the text, and a quote.
use Rattle.std.proofs.Common.{[], ◌∷◌, ◌++◌, refl}
use Rattle.json.specs.Print.{escape, quoted}
use Rattle.dd_dicom_json.specs.Parts.{characters_of}
use Rattle.dd_dicom_json.proofs.Leaving.{first_fails, leaves_fails, leaves_first, leaves_last, leaves_next}
use Rattle.dd_dicom_json.proofs.parts.add_quoted.Goals as goal

pub returns-in_err-add_raw-clause-written : goal.returns-in_err-add_raw-clause-written
returns-in_err-add_raw-clause-written g c =
    first_fails c.from_residual.result (quoted (characters_of c.args.text)) (34 ∷ [])
    (escape (characters_of c.args.text) ++ 34 ∷ []) _ _ c.from_residual.ensures.0 refl c.in_err-add_raw.ensures.written

pub returns-in_err-add_text-clause-written : goal.returns-in_err-add_text-clause-written
returns-in_err-add_text-clause-written g c =
    let inside = escape (characters_of c.args.text) in
    leaves_fails c.from_residual-in_err-add_text.result (quoted (characters_of c.args.text)) (inside ++ 34 ∷ []) inside
    (34 ∷ []) _ _ _ c.from_residual-in_err-add_text.ensures.0 refl
    (leaves_first _ (34 ∷ []) _ _ _ refl c.in_ok-add_raw.ensures.written) c.in_err-add_text.ensures.written

pub returns-clause-written : goal.returns-clause-written
returns-clause-written g c =
    let inside = escape (characters_of c.args.text) in
    leaves_last c.add_raw-2.result (quoted (characters_of c.args.text)) (34 ∷ []) _ _ _
    (leaves_next _ (inside ++ 34 ∷ []) inside (34 ∷ []) _ _ _ refl
    (leaves_first _ (34 ∷ []) _ _ _ refl c.in_ok-add_raw.ensures.written) c.in_ok-add_text.ensures.written)
    c.add_raw-2.ensures.written
