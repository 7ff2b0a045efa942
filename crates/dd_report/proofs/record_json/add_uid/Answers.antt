-- The UID is a member where it has bytes.
use Rattle.std.proofs.Common.{◌∙◌, sym}
use Rattle.dd_lines.proofs.GoingOn.{goes_none}
use Rattle.dd_json.proofs.ValueTexts.{value-Shown}
use Rattle.dd_report.proofs.MemberLines.{no_uid, uid_told}
use Rattle.dd_report.proofs.record_json.add_uid.Goals as goal

pub returns-then-is_empty-clause-written : goal.returns-then-is_empty-clause-written
returns-then-is_empty-clause-written g c =
    rw (no_uid c.args.uid.now (sym c.is_empty.ensures ∙ c.if-is_empty.true)) (goes_none _)

pub returns-clause-written : goal.returns-clause-written
returns-clause-written g c =
    uid_told c.add_member.result c.args.uid.now _ _ _ (value-Shown _)
    (sym c.is_empty.ensures ∙ c.if-is_empty.false) c.add_member.ensures.written
