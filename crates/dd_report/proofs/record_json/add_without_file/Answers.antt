-- The members are those of the definition.
use Rattle.std.proofs.Common.{◌∙◌, ap, sym}
use Rattle.serde_json.specs.Data.{boolean}
use Rattle.dd_json.specs.Values.{count, printed}
use Rattle.dd_json.proofs.ValueTexts.{sees_more, sees_none, value-Boolean, value-Number, value-Shown}
use Rattle.dd_report.proofs.MemberLines.{record_opens}
use Rattle.dd_report.proofs.RecordLines.{at_same, in_use_same, kind_same}
use Rattle.dd_report.proofs.record_json.add_without_file.Goals as goal

pub returns-clause-written : goal.returns-clause-written
returns-clause-written g c =
    let t = c.args.tree.now in
    record_opens c.open_record.result _ _ _ _ c.open_record.ensures.written
    (sees_more (value-Number _ ∙ ap count (c.from.ensures ∙ sym (at_same t))) (sees_more (value-Number _)
    (sees_more (value-Shown _ ∙ ap printed (sym (kind_same t)))
    (sees_more (value-Boolean _ ∙ ap boolean (sym (in_use_same t)))
    (sees_more (value-Shown _) sees_none)))))
