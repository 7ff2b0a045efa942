use Rattle.std.proofs.Common.{◌++◌, length}
use Rattle.std.proofs.lemmas.Result.{err_from_is_err_and}
use Rattle.byteorder.specs.Endian.{little_bytes}
use Rattle.dd_encoding.specs.Spelling.{item_tag_text}
use Rattle.dd_stream.proofs.Going.{first_fails, then_sends}
use Rattle.dd_set.proofs.writing.send_fragment.Goals as goal

pub returns-in_err-sent : goal.returns-in_err-sent
returns-in_err-sent g c =
    let p = err_from_is_err_and c.from_residual.result c.from_residual.ensures.1 in
    let f = c.args.fragment.now in
    let stopped = rw c.item_header.ensures at c.in_err-sent.ensures in
    rw (p.1, p.2) (first_fails (item_tag_text ++ little_bytes 4 (length f)) f _ _ _ _ _ _ stopped)

pub returns : goal.returns
returns g c =
    let f = c.args.fragment.now in
    let went = rw c.item_header.ensures at c.in_ok-sent.ensures in
    then_sends (item_tag_text ++ little_bytes 4 (length f)) f _ _ _ _ _ _ _ _ _ went c.send-2.ensures
