-- The member's name goes, then the data set, and then the end.
use Rattle.dd_set.specs.Views.{set_view}
use Rattle.dd_dicom_json.specs.DicomJson.{elements_data}
use Rattle.dd_dicom_json.specs.declared.character_set.CharacterSet.TheVariants.{Ascii}
use Rattle.dd_report.proofs.MemberLines.{elements_end, elements_fail, named_fails}
use Rattle.dd_report.proofs.record_json.add_set_member.Goals as goal

pub returns-in_err-add_raw-clause-written : goal.returns-in_err-add_raw-clause-written
returns-in_err-add_raw-clause-written g c =
    named_fails c.from_residual.result (elements_data Ascii (set_view c.args.set.now)) _ _ c.from_residual.ensures.0
    c.in_err-add_raw.ensures.written

pub returns-in_err-add_elements-clause-written : goal.returns-in_err-add_elements-clause-written
returns-in_err-add_elements-clause-written g c =
    elements_fail c.from_residual-in_err-add_elements.result (elements_data Ascii (set_view c.args.set.now)) _ _ _
    c.from_residual-in_err-add_elements.ensures.0 c.in_ok-add_raw.ensures.written c.in_err-add_elements.ensures.written

pub returns-clause-written : goal.returns-clause-written
returns-clause-written g c =
    elements_end c.add_raw-2.result (elements_data Ascii (set_view c.args.set.now)) _ _ _ _
    c.in_ok-add_raw.ensures.written
    c.in_ok-add_elements.ensures.written c.add_raw-2.ensures.written
