-- All bytes that were read ahead went to the copy, or a front of them.
use Rattle.std.proofs.Common.{◌+◌}
use Rattle.dd_files.proofs.KeptFiles.{said_grown}
use Rattle.dd_files.specs.Reasons.{HasCounted}
use Rattle.dd_pile.specs.Paths.{IsCopyOfPile}
use Rattle.dd_pile.proofs.Answered.{copy_known, found_settled}
use Rattle.dd_pile.proofs.Fronts.{ahead_front}
use Rattle.dd_pile.proofs.Reasons.{ahead_due, cut_made, cut_of, same_counted}
use Rattle.dd_pile.proofs.copies.send_copy.Goals as goal

pub returns-in-Ok-clause-made : goal.returns-in-Ok-clause-made
returns-in-Ok-clause-made g c =
    let start = c.in_ok-start_copy.ensures.started cc in
    let sent = c.in-Ok.ensures in
    let went = sent.1.1.1 in
    let bytes = c.args.ahead.now.bytes in
    record {
      bytes = bytes;
      start = g.F.Files.held c.start_copy.new.files;
      starts = start;
      written = g.met.F.Files.written_grows _ _ bytes went.stays went.holds;
      size = sent.1.0;
      settled = found_settled c.in-Ok.copy.found bytes sent.1.1.0;
      of = copy_known c.args.turn.now.source.path.now c.args.ahead.now (g.F.Files.held c.args.files.now)
          c.in-Ok.copy.found c.requires.known sent.0 sent.1.1.0;
    }

pub returns-in-Ok-clause-adds : goal.returns-in-Ok-clause-adds
returns-in-Ok-clause-adds g c =
    let start = c.in_ok-start_copy.ensures.started cc in
    let went = c.in-Ok.ensures.1.1.1 in
    said_grown (IsCopyOfPile c.args.turn.now.pile.now) start.path c.args.ahead.now.bytes _ _ _
    (c.args.turn.now.at + 1, start.place) start.free start.started
    (g.met.F.Files.written_grows _ _ c.args.ahead.now.bytes went.stays went.holds)

pub returns-in-Err-clause-refusal : goal.returns-in-Err-clause-refusal
returns-in-Err-clause-refusal g c = rw c.cut_or_refused.ensures (cut_of c.in-Err.fault c.args.turn.now.at)

pub returns-in-Err-clause-made : goal.returns-in-Err-clause-made
returns-in-Err-clause-made g c =
    let start = c.in_ok-start_copy.ensures.started cc in
    let front = ahead_front g.F.Write _ _ c.in-Err.fault c.args.ahead.now c.in-Err.ensures in
    rw c.cut_or_refused.ensures (cut_made c.args.turn.now.pile.now (c.args.turn.now.at + 1)
    c.args.turn.now.source.path.now c.in-Err.fault c.args.turn.now.at _ _ (record {
      bytes = front.bytes;
      start = g.F.Files.held c.start_copy.new.files;
      starts = start;
      written = g.met.F.Files.written_grows _ _ front.bytes front.stays front.holds;
    }))

pub returns-in-Err-clause-reason : goal.returns-in-Err-clause-reason
returns-in-Err-clause-reason g c =
    rw c.cut_or_refused.ensures (ahead_due g.F.In.Read g.F.Write _ _ _
    (HasCounted (g.F.Files.refusals c.args.files.now)) c.in-Err.fault c.args.ahead.now c.args.turn.now.at
    c.requires.due c.in-Err.ensures).1

pub returns-in-Err-clause-adds : goal.returns-in-Err-clause-adds
returns-in-Err-clause-adds g c =
    let start = c.in_ok-start_copy.ensures.started cc in
    let front = ahead_front g.F.Write _ _ c.in-Err.fault c.args.ahead.now c.in-Err.ensures in
    said_grown (IsCopyOfPile c.args.turn.now.pile.now) start.path front.bytes _ _ _
    (c.args.turn.now.at + 1, start.place) start.free start.started
    (g.met.F.Files.written_grows _ _ front.bytes front.stays front.holds)

pub returns-in-Err-clause-due : goal.returns-in-Err-clause-due
returns-in-Err-clause-due g c =
    rw c.cut_or_refused.ensures (ahead_due g.F.In.Read g.F.Write _ _ _
    (HasCounted (g.F.Files.refusals c.args.files.now)) c.in-Err.fault c.args.ahead.now c.args.turn.now.at
    c.requires.due c.in-Err.ensures).0

pub returns-in-Err-clause-counts : goal.returns-in-Err-clause-counts
returns-in-Err-clause-counts g c = λ done counted.
    let front = ahead_front g.F.Write _ _ c.in-Err.fault c.args.ahead.now c.in-Err.ensures in
    same_counted _ _ (g.met.F.Files.same_refusals _ _ front.stays) (c.in_ok-start_copy.ensures.counts (cc) counted)
