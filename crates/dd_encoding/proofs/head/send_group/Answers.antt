use Rattle.std.proofs.Common.{◌++◌, sym}
use Rattle.std.proofs.lemmas.Result.{err_from_is_err_and}
use Rattle.dd_stream.proofs.Going.{first_fails, then_sends, sends_same}
use Rattle.dd_encoding.specs.Head.{uids_text}
use Rattle.dd_encoding.proofs.Heads.{group_parts, version_text}
use Rattle.dd_encoding.proofs.head.send_group.Goals as goal

pub returns-in_err-sent : goal.returns-in_err-sent
returns-in_err-sent g c =
    let p = err_from_is_err_and c.from_residual.result c.from_residual.ensures.1 in
    let meta = c.args.meta.now in
    rw (p.1, p.2) (sends_same (version_text ++ uids_text meta) _ _ _ _ _ _ _ (sym (group_parts meta))
    (first_fails version_text (uids_text meta) _ _ _ _ _ _ c.in_err-sent.ensures))

pub returns : goal.returns
returns g c =
    let meta = c.args.meta.now in
    sends_same (version_text ++ uids_text meta) _ _ _ _ _ _ _ (sym (group_parts meta))
    (then_sends version_text (uids_text meta) _ _ _ _ _ _ _ _ _ c.in_ok-sent.ensures c.send_uids.ensures)
