use Rattle.std.proofs.Common.{arith}
use Rattle.std.proofs.lemmas.Result.{err_from_is_err_and}
use Rattle.dd_stream.proofs.Going.{first_fails, then_sends, sends_same}
use Rattle.dd_staged.proofs.ItemTexts.{count_fits, list_parts}
use Rattle.dd_staged.proofs.writing.send_list.Goals as goal

pub overflow_cast-list : goal.overflow_cast-list
overflow_cast-list g c = let few = count_fits c.args.list.now c.requires in omega (arith, few)

pub returns-in_err-sent : goal.returns-in_err-sent
returns-in_err-sent g c =
    let p = err_from_is_err_and c.from_residual.result c.from_residual.ensures.1 in
    rw (p.1, p.2) (sends_same _ _ _ _ _ _ _ _ (list_parts c.args.list.now)
    (first_fails _ _ _ _ _ _ _ _ c.in_err-sent.ensures))

pub returns-in_err-sent-2 : goal.returns-in_err-sent-2
returns-in_err-sent-2 g c =
    let p = err_from_is_err_and c.from_residual-in_err-sent-2.result c.from_residual-in_err-sent-2.ensures.1 in
    rw (p.1, p.2) (sends_same _ _ _ _ _ _ _ _ (list_parts c.args.list.now)
    (then_sends _ _ _ _ _ _ _ _ _ _ _ c.in_ok-sent.ensures (first_fails _ _ _ _ _ _ _ _ c.in_err-sent-2.ensures)))

pub returns : goal.returns
returns g c =
    let last = rw c.plain_header.ensures at c.send.ensures in
    sends_same _ _ _ _ _ _ _ _ (list_parts c.args.list.now)
    (then_sends _ _ _ _ _ _ _ _ _ _ _ c.in_ok-sent.ensures
    (then_sends _ _ _ _ _ _ _ _ _ _ _ c.in_ok-sent-2.ensures last))
