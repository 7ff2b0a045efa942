-- The members are those of the definition.
use Rattle.dd_json.proofs.ValueTexts.{object_line, sees_more, sees_none, value-Shown, value-Text}
use Rattle.dd_report.proofs.finding_json.add_file.Goals as goal

pub returns-clause-written : goal.returns-clause-written
returns-clause-written g c =
    object_line c.add_json_line.result _ _ _ _ c.add_json_line.ensures.written
    (sees_more (value-Text _) (sees_more (value-Shown _) sees_none))
