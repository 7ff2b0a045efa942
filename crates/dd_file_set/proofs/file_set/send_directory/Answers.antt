-- A front of the directory was written, and nothing else.
use Rattle.dd_file_set.proofs.Fronts.{text_front}
use Rattle.dd_file_set.proofs.file_set.send_directory.Goals as goal

pub returns-in-Ok-clause-grows : goal.returns-in-Ok-clause-grows
returns-in-Ok-clause-grows g c =
    let sent = text_front g.F.Write _ _ _ _ c.in-Ok.ensures.sends in
    (sent.front, (sent.rest, sent.parts), g.met.F.Files.written_grows _ _ sent.front sent.stays sent.holds)

pub returns-in-Err-clause-grows : goal.returns-in-Err-clause-grows
returns-in-Err-clause-grows g c =
    let sent = text_front g.F.Write _ _ _ _ c.in-Err.ensures.sends in
    (sent.front, (sent.rest, sent.parts), g.met.F.Files.written_grows _ _ sent.front sent.stays sent.holds)
