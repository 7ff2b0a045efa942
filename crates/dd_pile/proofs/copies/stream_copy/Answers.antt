-- All that the reader gave went to the copy, or a front of it.
use Rattle.std.proofs.Common.{◌+◌}
use Rattle.dd_files.proofs.KeptFiles.{said_grown}
use Rattle.dd_pile.specs.Paths.{IsCopyOfPile}
use Rattle.dd_pile.proofs.Answered.{copy_given, size_given}
use Rattle.dd_pile.proofs.Fronts.{source_front}
use Rattle.dd_pile.proofs.Reasons.{cut_made, cut_of, same_counted, source_due}
use Rattle.dd_pile.proofs.copies.stream_copy.Goals as goal

pub returns-in-Ok-copy_source-clause-made : goal.returns-in-Ok-copy_source-clause-made
returns-in-Ok-copy_source-clause-made g c =
    let start = c.in_ok-start_copy.ensures.started cc in
    let h = c.in-Ok-copy_source.ensures in
    let settled = h.answered.1.0 in
    let read = h.answered.1.1.0 in
    let went = h.answered.1.1.1 in
    record {
      bytes = h.given;
      start = g.F.Files.held c.start_copy.new.files;
      starts = rw c.in-Ok.ensures.kept at start;
      written = g.met.F.Files.written_grows _ _ h.given went.stays went.holds;
      size = size_given h.given _ _ _ c.in-Ok-copy_source.copy.size c.in-Ok-copy_source.copy.found read settled
          h.answered.0;
      settled = settled;
      of = copy_given c.args.turn.now.source.path.now (g.F.Files.held c.args.files.now) _ _ h.given _ _
          c.in-Ok-copy_source.copy.found c.in-Ok.ensures.opened.left h.known read settled;
    }

pub returns-in-Ok-copy_source-clause-adds : goal.returns-in-Ok-copy_source-clause-adds
returns-in-Ok-copy_source-clause-adds g c =
    let start = c.in_ok-start_copy.ensures.started cc in
    let h = c.in-Ok-copy_source.ensures in
    let went = h.answered.1.1.1 in
    said_grown (IsCopyOfPile c.args.turn.now.pile.now) start.path h.given _ _ _
    (c.args.turn.now.at + 1, start.place) (rw c.in-Ok.ensures.kept at start.free)
    (rw c.in-Ok.ensures.kept at start.started)
    (g.met.F.Files.written_grows _ _ h.given went.stays went.holds)

pub returns-clause-adds : goal.returns-clause-adds
returns-clause-adds g c =
    let start = c.in_ok-start_copy.ensures.started cc in
    let h = c.in-Err.ensures in
    let front = source_front g.F.Write _ _ c.in-Err.fault _ h.given _ _ _ h.answered in
    said_grown (IsCopyOfPile c.args.turn.now.pile.now) start.path front.bytes _ _ _
    (c.args.turn.now.at + 1, start.place) (rw c.in-Ok.ensures.kept at start.free)
    (rw c.in-Ok.ensures.kept at start.started)
    (g.met.F.Files.written_grows _ _ front.bytes front.stays front.holds)

pub returns-clause-refusal : goal.returns-clause-refusal
returns-clause-refusal g c = rw c.cut_or_refused.ensures (cut_of c.in-Err.fault c.args.turn.now.at)

pub returns-clause-made : goal.returns-clause-made
returns-clause-made g c =
    let start = c.in_ok-start_copy.ensures.started cc in
    let front = source_front g.F.Write _ _ c.in-Err.fault _ c.in-Err.ensures.given _ _ _ c.in-Err.ensures.answered in
    rw c.cut_or_refused.ensures (cut_made c.args.turn.now.pile.now (c.args.turn.now.at + 1)
    c.args.turn.now.source.path.now c.in-Err.fault c.args.turn.now.at _ _ (record {
      bytes = front.bytes;
      start = g.F.Files.held c.start_copy.new.files;
      starts = rw c.in-Ok.ensures.kept at start;
      written = g.met.F.Files.written_grows _ _ front.bytes front.stays front.holds;
    }))

pub returns-clause-reason : goal.returns-clause-reason
returns-clause-reason g c =
    rw c.cut_or_refused.ensures (source_due g.F.In.Read g.F.Write _ _ _ c.in-Err.fault _ c.in-Err.ensures.given _ _ _
    c.args.turn.now.at c.in-Err.ensures.answered).1

pub returns-clause-due : goal.returns-clause-due
returns-clause-due g c =
    rw c.cut_or_refused.ensures (source_due g.F.In.Read g.F.Write _ _ _ c.in-Err.fault _ c.in-Err.ensures.given _ _ _
    c.args.turn.now.at c.in-Err.ensures.answered).0

pub returns-clause-counts : goal.returns-clause-counts
returns-clause-counts g c = λ done counted.
    let front = source_front g.F.Write _ _ c.in-Err.fault _ c.in-Err.ensures.given _ _ _ c.in-Err.ensures.answered in
    same_counted _ _ (g.met.F.Files.same_refusals _ _ front.stays)
    (c.in_ok-start_copy.ensures.counts (cc) (same_counted _ _ (c.in-Ok.ensures.call.worked (cc)).0 counted))
