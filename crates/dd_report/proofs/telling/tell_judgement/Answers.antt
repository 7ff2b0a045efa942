-- A finding is printed, or the file waits for its digest.
use Rattle.std.proofs.Common.{subst, sym}
use Rattle.dd_report.specs.Batches.{Adds, KeepsBytes, judged, report_of}
use Rattle.dd_report.specs.Checking.{file_line}
use Rattle.dd_report.specs.declared.findings.Judgement.{Judgement}
use Rattle.dd_report.proofs.telling.tell_judgement.Goals as goal

pub returns-in-Known-clause-told : goal.returns-in-Known-clause-told
returns-in-Known-clause-told g c =
    let named = c.args.named in
    subst (λ (j : Judgement). Adds c.tell_known.result
    (file_line named.style named.at named.file.now (judged j c.args.batch.now.next.slot))
    (report_of g.W.Write c.args.lines.now c.args.batch.now)
    (report_of g.W.Write c.tell_known.new.lines c.tell_known.new.batch)) (sym c.in-Known.is) c.tell_known.ensures.told

pub add-requires-clause-whole : goal.add-requires-clause-whole
add-requires-clause-whole g c =
    subst (λ (j : Judgement). KeepsBytes j c.args.batch.now.next.slot) c.in-Pending.is c.requires.bytes

pub returns-in-Pending-clause-told : goal.returns-in-Pending-clause-told
returns-in-Pending-clause-told g c =
    let named = c.args.named in
    subst (λ (j : Judgement). Adds c.add.result
    (file_line named.style named.at named.file.now (judged j c.args.batch.now.next.slot))
    (report_of g.W.Write c.args.lines.now c.args.batch.now)
    (report_of g.W.Write c.add.new.lines c.add.new.self)) (sym c.in-Pending.is) c.add.ensures.added
