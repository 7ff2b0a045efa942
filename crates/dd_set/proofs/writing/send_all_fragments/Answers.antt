use Rattle.std.proofs.lemmas.Result.{err_from_is_err_and}
use Rattle.dd_set.specs.Views.{pieces}
use Rattle.dd_stream.proofs.Going.{first_fails, then_sends, sends_same}
use Rattle.dd_set.proofs.Parts.{fragments_parts}
use Rattle.dd_set.proofs.writing.send_all_fragments.Goals as goal

pub returns-in_err-sent : goal.returns-in_err-sent
returns-in_err-sent g c =
    let p = err_from_is_err_and c.from_residual.result c.from_residual.ensures.1 in
    rw (p.1, p.2) (sends_same _ _ _ _ _ _ _ _ (fragments_parts c.args.tag c.args.vr (pieces c.args.fragments.now))
    (first_fails _ _ _ _ _ _ _ _ c.in_err-sent.ensures))

pub returns-in_err-sent-2 : goal.returns-in_err-sent-2
returns-in_err-sent-2 g c =
    let p = err_from_is_err_and c.from_residual-in_err-sent-2.result c.from_residual-in_err-sent-2.ensures.1 in
    rw (p.1, p.2) (sends_same _ _ _ _ _ _ _ _ (fragments_parts c.args.tag c.args.vr (pieces c.args.fragments.now))
    (then_sends _ _ _ _ _ _ _ _ _ _ _ c.in_ok-sent.ensures (first_fails _ _ _ _ _ _ _ _ c.in_err-sent-2.ensures)))

pub returns : goal.returns
returns g c =
    let ended = rw c.plain_header.ensures at c.send.ensures in
    sends_same _ _ _ _ _ _ _ _ (fragments_parts c.args.tag c.args.vr (pieces c.args.fragments.now))
    (then_sends _ _ _ _ _ _ _ _ _ _ _ c.in_ok-sent.ensures
    (then_sends _ _ _ _ _ _ _ _ _ _ _ c.in_ok-sent-2.ensures ended))
