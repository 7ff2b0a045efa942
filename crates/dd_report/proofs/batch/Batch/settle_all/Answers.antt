-- What was to be said is said, and then nothing waits.
use Rattle.dd_report.proofs.Batching.{settle_fails, settle_grows}
use Rattle.dd_report.proofs.batch.Batch.settle_all.Goals as goal

pub returns-in-Ok-clause-settled : goal.returns-in-Ok-clause-settled
returns-in-Ok-clause-settled g c =
    let emptied = c.empty.new.self in
    settle_grows g.W.Write c.args.lines.now c.tell_all-printed.new.lines c.args.self.now
    (record emptied { found = c.in-Ok.found }) c.in-Ok.ensures.told c.empty.ensures.used c.in-Ok.ensures.found

pub returns-in-Err-clause-settled : goal.returns-in-Err-clause-settled
returns-in-Err-clause-settled g c =
    settle_fails g.W.Write c.args.lines.now c.tell_all-printed.new.lines c.args.self.now c.empty.new.self
    c.in-Err.ensures.told
