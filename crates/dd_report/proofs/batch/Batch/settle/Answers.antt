-- What the next slot has is of no file that waits.
use Rattle.std.proofs.Common.{[]}
use Rattle.dd_report.proofs.Batching.{other_adds, other_settles}
use Rattle.dd_report.proofs.batch.Batch.settle.Goals as goal

pub settle_all-requires : goal.settle_all-requires
settle_all-requires g c =
    let next = c.args.self.now.next in
    other_settles c.args.self.now (record next { slot = c.clear.new.self }) c.requires

pub returns-clause-settled : goal.returns-clause-settled
returns-clause-settled g c =
    let next = c.args.self.now.next in
    other_adds g.W.Write c.settle_all.result c.args.lines.now c.settle_all.new.lines c.args.self.now
    c.settle_all.new.self (record next { slot = c.clear.new.self }) [] c.requires c.settle_all.ensures.settled
