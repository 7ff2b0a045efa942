-- What waited has gone, and so do the bytes that have no room.
use Rattle.dd_lines.proofs.TextLemmas.{fails_after, on_err, sent_both}
use Rattle.dd_lines.proofs.line_buffer.LineBuffer.add.Goals as goal

pub returns-clause-sent : goal.returns-clause-sent
returns-clause-sent g c =
    sent_both _ _ _ _ _ _ _ _ _ c.in_ok-flush.ensures.empty c.in_ok-flush.ensures.sent c.in_ok-send_bytes.ensures.sent

pub returns-in_err-send_bytes-clause-unsent : goal.returns-in_err-send_bytes-clause-unsent
returns-in_err-send_bytes-clause-unsent g c =
    on_err _ (fails_after _ _ _ _ _ _ _ _ c.in_ok-flush.ensures.sent c.in_err-send_bytes.ensures.unsent)
