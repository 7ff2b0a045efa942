-- The reader failed.
use Rattle.dd_faults.proofs.Due.{due_of}
use Rattle.dd_files.proofs.Reasons.{whole_failed}
use Rattle.dd_files.proofs.LongFiles.{long_file}
use Rattle.dd_inspecting.proofs.set_directory.directory_bytes.Goals as goal

pub returns-in-Err-Read-clause-due : goal.returns-in-Err-Read-clause-due
returns-in-Err-Read-clause-due g c = λ strict.
    let h = c.in-Err-Read.ensures in
    due_of g.F.In.Read _ _ strict c.of-in-Err-Read.result _ _ c.of-in-Err-Read.ensures
    (whole_failed g.F.In.Read c.read_whole.new.reader c.in-Err-Read.field-0 4294967295 h.given _ _
    c.in-Err-Read.field-0-is h.answered)

-- The directory is too long.
pub returns-in-Err-TooLong-clause-grounds : goal.returns-in-Err-TooLong-clause-grounds
returns-in-Err-TooLong-clause-grounds g c =
    let h = c.in-Err-TooLong.ensures in
    let place = c.in_ok-path.ensures in
    rw c.of-in-Err-TooLong.ensures (
      c.as_str.result.now,
      rw c.as_str.ensures.value (record { bare = place.bare; ended = place.ended; apart = place.apart }),
      long_file c.as_str.result.now (g.F.Files.held c.args.files.now) _ _ h.given c.in-Err-TooLong.field-0 _ _
          c.in-Ok.ensures.opened.left h.known c.in-Err-TooLong.field-0-is h.answered,
    )
