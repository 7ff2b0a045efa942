-- The members of each form go, then the path, and then the data set.
use Rattle.std.proofs.Common.{refl}
use Rattle.dd_report.specs.FoundRecords.{found_row}
use Rattle.dd_report.proofs.FoundLines.{back_tells, front_fails, path_fails}
use Rattle.dd_report.proofs.record_json.add_found_record.Goals as goal

pub returns-in_err-add_front-clause-written : goal.returns-in_err-add_front-clause-written
returns-in_err-add_front-clause-written g c =
    front_fails c.from_residual.result (found_row c.args.found.now) _ _ c.from_residual.ensures.0
    c.in_err-add_front.ensures.written

pub returns-in_err-add_path-clause-written : goal.returns-in_err-add_path-clause-written
returns-in_err-add_path-clause-written g c =
    path_fails c.from_residual-in_err-add_path.result (found_row c.args.found.now) _ _ _
    c.from_residual-in_err-add_path.ensures.0 c.in_ok-add_front.ensures.written c.in_err-add_path.ensures.written

pub returns-clause-written : goal.returns-clause-written
returns-clause-written g c =
    back_tells c.add_set_member.result c.args.found.now _ _ _ _ _ refl c.in_ok-add_front.ensures.written
    c.in_ok-add_path.ensures.written c.add_set_member.ensures.written
