-- The comma goes, then the name, and then the value.
use Rattle.dd_json.specs.Values.{value_of}
use Rattle.dd_report.proofs.MemberLines.{comma_fails, name_fails, value_tells}
use Rattle.dd_report.proofs.record_json.add_member.Goals as goal

pub returns-in_err-add_raw-clause-written : goal.returns-in_err-add_raw-clause-written
returns-in_err-add_raw-clause-written g c =
    comma_fails c.from_residual.result c.args.name.now (value_of c.args.value.now) _ _ c.from_residual.ensures.0
    c.in_err-add_raw.ensures.written

pub returns-in_err-add_member_name-clause-written : goal.returns-in_err-add_member_name-clause-written
returns-in_err-add_member_name-clause-written g c =
    name_fails c.from_residual-in_err-add_member_name.result c.args.name.now (value_of c.args.value.now) _ _ _
    c.from_residual-in_err-add_member_name.ensures.0 c.in_ok-add_raw.ensures.written
    c.in_err-add_member_name.ensures.written

pub returns-clause-written : goal.returns-clause-written
returns-clause-written g c =
    value_tells c.add_json.result c.args.name.now (value_of c.args.value.now) _ _ _ _ c.in_ok-add_raw.ensures.written
    c.in_ok-add_member_name.ensures.written c.add_json.ensures.written
