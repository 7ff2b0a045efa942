-- The members that each form has go, and then what the form adds.
use Rattle.std.proofs.Common.{refl}
use Rattle.dd_report.proofs.MemberLines.{back_tells, front_fails}
use Rattle.dd_report.proofs.record_json.add_record.Goals as goal

pub returns-in_err-add_front-clause-written : goal.returns-in_err-add_front-clause-written
returns-in_err-add_front-clause-written g c =
    front_fails c.from_residual.result c.args.form c.args.level c.args.tree.now _ _ c.from_residual.ensures.0
    c.in_err-add_front.ensures.written

pub returns-clause-written : goal.returns-clause-written
returns-clause-written g c =
    back_tells c.add_back.result c.args.form c.args.level c.args.tree.now _ _ _ _ refl c.in_ok-add_front.ensures.written
    c.add_back.ensures.written
