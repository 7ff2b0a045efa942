-- The members of the cause are those of the definition; the words are three parts.
use Rattle.std.proofs.Common.{codes, refl}
use Rattle.dd_json.proofs.ValueTexts.{sees_more, sees_none, value-Number, value-Text}
use Rattle.dd_report.proofs.FaultLines.{parts_tell}
use Rattle.dd_report.proofs.finding_json.add_words.Goals as goal

pub returns-clause-written : goal.returns-clause-written
returns-clause-written g c =
    parts_tell c.add_fault_parts.result c.args.file.now (codes "31 File ") c.args.words.now c.args.of.now _ _ _ _ _ refl
    (sees_more (value-Number _) (sees_more (value-Text _) sees_none)) c.add_fault_parts.ensures.written
