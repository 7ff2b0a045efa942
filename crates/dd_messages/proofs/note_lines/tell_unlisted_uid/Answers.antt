use Rattle.dd_messages.proofs.note_lines.tell_unlisted_uid.Goals as goal

pub returns-in-Text-clause-told : goal.returns-in-Text-clause-told
returns-in-Text-clause-told g c = rw c.in-Text.is c.print_line.ensures.sent
