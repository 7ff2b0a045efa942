-- What is found of the files that wait is said, and then the finding.
use Rattle.std.proofs.Common.{Option, Some, refl, subst, sym, true}
use Rattle.dd_report.specs.Batches.{Adds, Grows, report_of}
use Rattle.dd_report.specs.Checking.{file_line}
use Rattle.dd_report.specs.declared.findings.Finding.{Finding}
use Rattle.dd_report.proofs.Batching.{adds_err, grows_none, known_told, none_ready, some_line}
use Rattle.dd_report.proofs.telling.tell_known.Goals as goal

pub returns-in_default-clause-told : goal.returns-in_default-clause-told
returns-in_default-clause-told g c =
    let named = c.args.named in
    let here = report_of g.W.Write c.args.lines.now c.args.batch.now in
    subst (λ (o : Option Finding). Grows (file_line named.style named.at named.file.now o) here here)
    (sym c.in_default.is) (grows_none here)

pub returns-in_err-settle-clause-ready : goal.returns-in_err-settle-clause-ready
returns-in_err-settle-clause-ready g c = none_ready c.settle.new.self c.in_err-settle.ensures.used

pub returns-in_err-settle-clause-told : goal.returns-in_err-settle-clause-told
returns-in_err-settle-clause-told g c =
    adds_err c.from_residual.result
    (file_line c.args.named.style c.args.named.at c.args.named.file.now c.args.finding)
    (report_of g.W.Write c.args.lines.now c.args.batch.now) (report_of g.W.Write c.settle.new.lines c.settle.new.self)
    c.from_residual.ensures.0 c.in_err-settle.ensures.settled

pub returns-clause-ready : goal.returns-clause-ready
returns-clause-ready g c =
    let settled = c.settle.new.self in
    none_ready (record settled { found = true }) c.in_ok-settle.ensures.used

pub returns-clause-told : goal.returns-clause-told
returns-clause-told g c =
    let named = c.args.named in
    let settled = c.settle.new.self in
    let start = report_of g.W.Write c.args.lines.now c.args.batch.now in
    let end = report_of g.W.Write c.tell_finding.new.lines (record settled { found = true }) in
    subst (λ (o : Option Finding). Adds c.tell_finding.result (file_line named.style named.at named.file.now o) start
    end)
    (sym c.in-Some.is)
    (known_told g.W.Write c.tell_finding.result
    (file_line named.style named.at named.file.now (Some c.in-Some.finding)) c.settle.new.lines
    c.tell_finding.new.lines start c.settle.new.self (record settled { found = true }) c.in_ok-settle.ensures.settled
    c.in_ok-settle.ensures.used c.in_ok-settle.ensures.used refl
    (some_line named.style named.at named.file.now c.in-Some.finding) c.tell_finding.ensures.written)
