use Rattle.std.proofs.Common.{◌≡◌, arith, ◌∙◌}
use Rattle.std.proofs.lemmas.List.Elements.{All-same}
use Rattle.dd_layout.specs.Numbering.{counters_of}
use Rattle.dd_records.specs.Records.{IsFileOf}
use Rattle.dd_records.specs.declared.record.PlanRecord.{PlanRecord}
use Rattle.dd_layout.proofs.NumberPass.{numbered_from}
use Rattle.dd_layout.proofs.Ranked.{files_numbered, numbered_all, pass_numbered}
use Rattle.dd_layout.proofs.ranks.number.Goals as goal

-- after the last record the records are the records of the whole pass
numbered_at_end : (c : goal.After-loop-record)
    → c.loop-record.records ≡ numbered_from (counters_of 0 0 0 0) c.args.records.now
numbered_at_end c =
    numbered_all c.loop-record.record-index _ c.loop-record.records _ (omega arith)
    c.loop-record.invariant.numbered

pub returns-clause-numbered : goal.returns-clause-numbered
returns-clause-numbered c = λ versions most few fits is.
    numbered_at_end c ∙ pass_numbered most versions c.args.records.now few fits is

pub returns-clause-files : goal.returns-clause-files
returns-clause-files c = λ versions most few fits is.
    All-same (λ (row : PlanRecord). IsFileOf row.level row.file) c.loop-record.records _
    (numbered_at_end c ∙ pass_numbered most versions c.args.records.now few fits is)
    (files_numbered most versions few fits)
