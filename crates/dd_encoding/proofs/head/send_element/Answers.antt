use Rattle.std.proofs.Common.{◌++◌, length, Some}
use Rattle.std.proofs.lemmas.Result.{err_from_is_err_and}
use Rattle.dd_encoding.specs.Spelling.{header_text}
use Rattle.dd_stream.proofs.Going.{first_fails, then_sends, sends_same}
use Rattle.dd_encoding.proofs.Heads.{element_parts, header_room}
use Rattle.dd_encoding.proofs.head.send_element.Goals as goal

pub returns-in_err-sent : goal.returns-in_err-sent
returns-in_err-sent g c =
    let p = err_from_is_err_and c.from_residual.result c.from_residual.ensures.1 in
    let value = c.args.value.now in
    let header = header_text c.args.tag (Some c.args.vr) (length value) in
    rw (p.1, p.2) (sends_same (header ++ value) _ _ _ _ _ _ _ (element_parts c.args.tag c.args.vr value)
    (first_fails header value _ _ _ _ _ _
    (c.in_err-sent.ensures.sends (header_room c.args.vr (length value) c.requires.short))))

pub returns : goal.returns
returns g c =
    let value = c.args.value.now in
    let header = header_text c.args.tag (Some c.args.vr) (length value) in
    sends_same (header ++ value) _ _ _ _ _ _ _ (element_parts c.args.tag c.args.vr value)
    (then_sends header value _ _ _ _ _ _ _ _ _
    (c.in_ok-sent.ensures.sends (header_room c.args.vr (length value) c.requires.short)) c.send.ensures)
