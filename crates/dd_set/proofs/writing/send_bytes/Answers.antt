use Rattle.std.proofs.Common.{◌++◌, length, append_assoc}
use Rattle.std.proofs.lemmas.Result.{err_from_is_err_and}
use Rattle.dd_encoding.specs.Spelling.{header_text, tag_text, shape_text}
use Rattle.dd_stream.proofs.Going.{first_fails, then_sends, sends_same}
use Rattle.dd_set.proofs.writing.send_bytes.Goals as goal

pub returns-in_err-sent : goal.returns-in_err-sent
returns-in_err-sent g c =
    let p = err_from_is_err_and c.from_residual.result c.from_residual.ensures.1 in
    let header = header_text c.args.tag c.args.vr (length c.args.value.now) in
    rw (p.1, p.2) (sends_same (header ++ c.args.value.now) _ _ _ _ _ _ _
    (append_assoc (tag_text c.args.tag) (shape_text c.args.vr (length c.args.value.now)) c.args.value.now)
    (first_fails header c.args.value.now _ _ _ _ _ _ c.in_err-sent.ensures))

pub returns : goal.returns
returns g c =
    let header = header_text c.args.tag c.args.vr (length c.args.value.now) in
    sends_same (header ++ c.args.value.now) _ _ _ _ _ _ _ (append_assoc (tag_text c.args.tag)
    (shape_text c.args.vr (length c.args.value.now)) c.args.value.now)
    (then_sends header c.args.value.now _ _ _ _ _ _ _ _ _ c.in_ok-sent.ensures c.send.ensures)
