-- The line goes, and then all that waits.
use Rattle.std.proofs.Common.{rules}
use Rattle.dd_lines.specs.Telling.{parts_of, shown_line}
use Rattle.dd_lines.proofs.GoingOn.{text_sent, text_unsent}
use Rattle.dd_lines.proofs.text.show_line.Goals as goal

pub returns-clause-sent : goal.returns-clause-sent
returns-clause-sent g c =
    let sent = text_sent c.flush.result (shown_line (parts_of c.args.parts.now)) _ _ _ _ _ _ _ _
    c.new-line.ensures.empty c.in_ok-add_line.ensures.written c.flush.ensures.sent in
    search (rules, sent)

pub returns-clause-unsent : goal.returns-clause-unsent
returns-clause-unsent g c =
    let unsent = text_unsent c.flush.result (shown_line (parts_of c.args.parts.now)) _ _ _ _ _ _ _ _
    c.new-line.ensures.empty c.in_ok-add_line.ensures.written c.flush.ensures.unsent in
    search (rules, unsent)
