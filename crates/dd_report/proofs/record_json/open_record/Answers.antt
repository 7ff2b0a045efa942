-- The first member goes, and then the others.
use Rattle.std.proofs.Common.{codes}
use Rattle.dd_json.specs.Values.{value_of}
use Rattle.dd_json.specs.declared.value.Json.{Object}
use Rattle.dd_json.proofs.Steps.{first_fails}
use Rattle.dd_report.specs.MemberTexts.{members_inside, more_text}
use Rattle.dd_report.proofs.MemberLines.{record_goes}
use Rattle.dd_report.proofs.record_json.open_record.Goals as goal

pub returns-in_err-add_raw-clause-written : goal.returns-in_err-add_raw-clause-written
returns-in_err-add_raw-clause-written g c =
    first_fails c.from_residual.result (codes "{\"line\":\"RECORD\"")
    (more_text (members_inside (value_of (Object c.args.members)))) _ _ c.from_residual.ensures.0
    c.in_err-add_raw.ensures.written

pub returns-clause-written : goal.returns-clause-written
returns-clause-written g c =
    record_goes c.add_members.result c.args.members _ _ _ c.in_ok-add_raw.ensures.written c.add_members.ensures.written
