-- What was read is what the file has, as far as the reader came.
use Rattle.std.proofs.Common.{◌≤◌, length}
use Rattle.std.specs.Prelude.{⊤}
use Rattle.dd_pile.proofs.FilesRead.{list_read, longer}
use Rattle.dd_pile.proofs.list.list_bytes.Goals as goal

pub returns-in-Err-Read-clause-unread : goal.returns-in-Err-Read-clause-unread
returns-in-Err-Read-clause-unread g c = λ _.
    let is = c.in_ok-path.ensures in
    list_read c.args.pile.now c.as_str.result.now (λ _. ⊤) (g.F.Files.held c.args.files.now) _ _
    c.read_whole.ensures.given
    (rw c.as_str.ensures.value (record { bare = is.bare; ended = is.ended; apart = is.apart }))
    (c.in-Ok.ensures.opened.left)
    c.read_whole.ensures.known (λ rest left. tt)

pub returns-in-Err-TooLong-clause-long : goal.returns-in-Err-TooLong-clause-long
returns-in-Err-TooLong-clause-long g c = λ _.
    let is = c.in_ok-path.ensures in
    let h = c.in-Err-TooLong.ensures in
    list_read c.args.pile.now c.as_str.result.now (λ bytes. 4294967296 ≤ length bytes)
    (g.F.Files.held c.args.files.now) _ _ h.given
    (rw c.as_str.ensures.value (record { bare = is.bare; ended = is.ended; apart = is.apart }))
    (c.in-Ok.ensures.opened.left)
    h.known (λ rest left. longer c.in-Err-TooLong.field-0 4294967295 h.given rest _ _ _
    c.in-Err-TooLong.field-0-is h.answered)
