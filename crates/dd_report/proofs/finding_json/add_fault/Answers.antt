-- The words and the cause are the fault's.
use Rattle.std.proofs.Common.{◌∙◌, ◌++◌, ℕ, List, [], ap, codes, sym}
use Rattle.dd_report.specs.FindingJson.{cause_json}
use Rattle.dd_report.specs.Words.{file_words}
use Rattle.dd_report.proofs.FaultLines.{fault_tells}
use Rattle.dd_report.proofs.finding_json.add_fault.Goals as goal

pub returns-in-GroupLength-clause-written : goal.returns-in-GroupLength-clause-written
returns-in-GroupLength-clause-written g c =
    fault_tells c.add_words-in-GroupLength.result c.args.file.now (codes "22 GroupLength" ++ [])
    (file_words c.args.fault.now)
    _ (cause_json c.args.fault.now) _ _ (ap file_words (sym c.in-GroupLength.is)) c.cause_of-cause.ensures
    c.add_words-in-GroupLength.ensures.written

pub returns-in-OtherSyntax-clause-written : goal.returns-in-OtherSyntax-clause-written
returns-in-OtherSyntax-clause-written g c =
    fault_tells c.add_words-in-OtherSyntax.result c.args.file.now (codes "25 OtherSyntax " ++ c.as_bytes.result.now)
    (file_words c.args.fault.now) _ (cause_json c.args.fault.now) _ _
    (ap (λ (uid : List ℕ). codes "25 OtherSyntax " ++ uid) c.as_bytes.ensures.value
    ∙ ap file_words (sym c.in-OtherSyntax.is))
    c.cause_of-cause.ensures c.add_words-in-OtherSyntax.ensures.written
