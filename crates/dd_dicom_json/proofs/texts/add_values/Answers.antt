-- The element up to its first value, its values, and its end.
use Rattle.std.proofs.Common.{[], ◌∷◌, false, codes}
use Rattle.serde_json.specs.Written.{items_text}
use Rattle.dd_dicom_json.specs.Texts.{opening}
use Rattle.dd_dicom_json.specs.Values.{text_items}
use Rattle.dd_dicom_json.proofs.Leaving.{first_fails, middle_fails, third_tells}
use Rattle.dd_dicom_json.proofs.ListTexts.{list_text}
use Rattle.dd_dicom_json.proofs.texts.add_values.Goals as goal

pub returns-in_err-open_list-clause-written : goal.returns-in_err-open_list-clause-written
returns-in_err-open_list-clause-written g c =
    first_fails c.from_residual.result _ (opening c.args.vr (codes "Value")) _ _ _ c.from_residual.ensures.0
    (list_text c.args.vr (codes "Value") (text_items c.args.form c.args.set c.args.bytes.now))
    c.in_err-open_list.ensures.written

pub returns-in_err-add_parted-clause-written : goal.returns-in_err-add_parted-clause-written
returns-in_err-add_parted-clause-written g c =
    middle_fails c.from_residual-in_err-add_parted.result _ (opening c.args.vr (codes "Value"))
    (items_text false (text_items c.args.form c.args.set c.args.bytes.now)) (125 ∷ []) _ _ _
    c.from_residual-in_err-add_parted.ensures.0
    (list_text c.args.vr (codes "Value") (text_items c.args.form c.args.set c.args.bytes.now))
    c.in_ok-open_list.ensures.written c.in_err-add_parted.ensures.written

pub returns-clause-written : goal.returns-clause-written
returns-clause-written g c =
    third_tells c.add_raw.result _ (opening c.args.vr (codes "Value"))
    (items_text false (text_items c.args.form c.args.set c.args.bytes.now)) (125 ∷ []) _ _ _ _
    (list_text c.args.vr (codes "Value") (text_items c.args.form c.args.set c.args.bytes.now))
    c.in_ok-open_list.ensures.written c.in_ok-add_parted.ensures.written c.add_raw.ensures.written
