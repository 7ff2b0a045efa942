-- Once the files that wait are spoken of, no file waits.
use Rattle.std.proofs.Common.{◌≢◌, Err, refl}
use Rattle.dd_report.specs.Batches.{report_of}
use Rattle.dd_lines.specs.Telling.{way_of}
use Rattle.dd_report.specs.declared.checking.ReportFault.TheVariants.{Unsent}
use Rattle.dd_report.proofs.Batching.{closes_err, closes_failed, closes_ok, closes_unsent, course_of_none}
use Rattle.dd_report.proofs.Batching.{found_of_none}
use Rattle.dd_report.proofs.checking.found_at_end.Goals as goal

pub returns-then-is_unsent-clause-found : goal.returns-then-is_unsent-clause-found
returns-then-is_unsent-clause-found g c =
    closes_unsent c.args.checked (report_of g.W.Write c.args.lines.now c.args.batch.now)
    (way_of g.W.Write c.args.lines.now) (c.if-is_unsent.ensures.0 refl) refl refl

pub returns-in_default-clause-found : goal.returns-in_default-clause-found
returns-in_default-clause-found g c =
    let not : c.args.checked ≢ Err Unsent = λ is. (let e = c.if-is_unsent.ensures.1 is in absurd (cc)) in
    closes_failed c.args.checked (report_of g.W.Write c.args.lines.now c.args.batch.now)
    (way_of g.W.Write c.settle.new.lines) not c.in_default.ensures.settled

pub returns-in-Ok-checked-clause-found : goal.returns-in-Ok-checked-clause-found
returns-in-Ok-checked-clause-found g c =
    closes_ok c.args.checked _ c.settle.new.self.found (report_of g.W.Write c.args.lines.now c.args.batch.now)
    (report_of g.W.Write c.settle.new.lines c.settle.new.self) (way_of g.W.Write c.settle.new.lines)
    c.in-Ok-checked.is c.in-Ok.ensures.settled
    (course_of_none g.W.Write c.settle.new.lines c.settle.new.self c.in-Ok.ensures.used)
    (found_of_none g.W.Write c.settle.new.lines c.settle.new.self c.in-Ok.ensures.used)

pub returns-in-Err-clause-found : goal.returns-in-Err-clause-found
returns-in-Err-clause-found g c =
    let not : c.args.checked ≢ Err Unsent = λ is. (let e = c.if-is_unsent.ensures.1 is in absurd (cc)) in
    closes_err c.args.checked c.in-Err.fault (report_of g.W.Write c.args.lines.now c.args.batch.now)
    (report_of g.W.Write c.settle.new.lines c.settle.new.self) (way_of g.W.Write c.settle.new.lines)
    c.in-Err.is not c.in-Ok.ensures.settled
    (course_of_none g.W.Write c.settle.new.lines c.settle.new.self c.in-Ok.ensures.used)
