-- The members of the fault are those of the definition.
use Rattle.std.proofs.Common.{refl}
use Rattle.dd_json.proofs.ValueTexts.{sees_more, sees_none, value-Number, value-Text}
use Rattle.dd_report.proofs.FaultLines.{members_tell}
use Rattle.dd_report.proofs.finding_json.add_fault_parts.Goals as goal

pub returns-clause-written : goal.returns-clause-written
returns-clause-written g c =
    members_tell c.add_fault_members.result c.args.file.now _ _ _ _
    (sees_more (value-Number _) (sees_more (value-Text _) (sees_more refl (sees_more refl sees_none))))
    c.add_fault_members.ensures.written
