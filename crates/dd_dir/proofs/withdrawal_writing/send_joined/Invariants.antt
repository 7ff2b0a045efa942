use Rattle.std.proofs.Common.{length}
use Rattle.std.specs.List.{join_with_byte}
use Rattle.dd_stream.proofs.Going.{GoesOn}
use Rattle.dd_stream.specs.Sends.{counts_of}
use Rattle.dd_dir.proofs.withdrawal_writing.send_joined.Given as goal

-- the UIDs that are left are still to be sent
abbrev pub invariant-loop-withdrawn : goal.invariant-loop-withdrawn
invariant-loop-withdrawn g l =
    GoesOn (join_with_byte 0x5c l.initial.withdrawn) (join_with_byte 0x5c l.withdrawn) l.initial.sent l.sent
    (g.W.Write.contents l.initial.writer, g.W.Write.rest l.initial.writer)
    (g.W.Write.contents l.writer, g.W.Write.rest l.writer) (counts_of g.W.Write l.initial.writer)
    (counts_of g.W.Write l.writer)

abbrev pub decreases-loop-withdrawn : goal.decreases-loop-withdrawn
decreases-loop-withdrawn g l = length l.withdrawn
