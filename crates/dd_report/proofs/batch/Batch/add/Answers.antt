-- The line of one file more waits, or all are said.
use Rattle.std.proofs.Common.{arith}
use Rattle.sha2.specs.Sha256.{sha256}
use Rattle.dd_report.specs.Batches.{digest_line, report_of}
use Rattle.dd_report.specs.declared.batch.PendingFile.{PendingFile}
use Rattle.dd_report.proofs.Batching.{adds_all, at_most_eight, next_settles, next_waits, none_ready}
use Rattle.dd_report.proofs.batch.Batch.add.Goals as goal

pub shift-requires : goal.shift-requires
shift-requires g c = c.requires.ready.0

pub settle_all-requires : goal.settle_all-requires
settle_all-requires g c =
    let next : PendingFile =
    record { slot = c.args.self.now.next.slot; named = c.args.named; expected = c.args.expected } in
    next_settles c.args.self.now c.shift.new.self next c.requires.ready c.requires.whole c.shift.ensures.used
    c.shift.ensures.files

pub returns-then-is_full-clause-ready : goal.returns-then-is_full-clause-ready
returns-then-is_full-clause-ready g c = none_ready c.settle_all.new.self c.settle_all.ensures.used

pub returns-then-is_full-clause-added : goal.returns-then-is_full-clause-added
returns-then-is_full-clause-added g c =
    let next : PendingFile =
    record { slot = c.args.self.now.next.slot; named = c.args.named; expected = c.args.expected } in
    adds_all c.settle_all.result (digest_line c.args.named c.args.expected (sha256 next.slot.kept.items))
    (report_of g.W.Write c.args.lines.now c.args.self.now) (report_of g.W.Write c.args.lines.now c.shift.new.self)
    (report_of g.W.Write c.settle_all.new.lines c.settle_all.new.self)
    (next_waits g.W.Write c.args.lines.now c.args.self.now c.shift.new.self next c.requires.ready c.shift.ensures.files
    c.shift.ensures.found) c.settle_all.ensures.settled

pub returns-else-is_full-clause-ready : goal.returns-else-is_full-clause-ready
returns-else-is_full-clause-ready g c =
    let next : PendingFile =
    record { slot = c.args.self.now.next.slot; named = c.args.named; expected = c.args.expected } in
    let can = next_settles c.args.self.now c.shift.new.self next c.requires.ready c.requires.whole c.shift.ensures.used
    c.shift.ensures.files in
    let most = at_most_eight c.shift.new.self.lanes in
    let less = c.is_full.ensures c.if-is_full.false in
    (omega (arith, most, less), can.1)

pub returns-else-is_full-clause-added : goal.returns-else-is_full-clause-added
returns-else-is_full-clause-added g c =
    let next : PendingFile =
    record { slot = c.args.self.now.next.slot; named = c.args.named; expected = c.args.expected } in
    next_waits g.W.Write c.args.lines.now c.args.self.now c.shift.new.self next c.requires.ready c.shift.ensures.files
    c.shift.ensures.found
