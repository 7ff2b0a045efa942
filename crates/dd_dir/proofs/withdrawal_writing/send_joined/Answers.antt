use Rattle.std.proofs.Common.{refl}
use Rattle.std.proofs.lemmas.Result.{err_from_is_err_and}
use Rattle.dd_stream.proofs.Going.{goes_on_fails, goes_on_piece}
use Rattle.dd_dir.proofs.WithdrawalTexts.{joined_at, joined_by}
use Rattle.dd_dir.proofs.withdrawal_writing.send_joined.Goals as goal

pub returns-in_err-sent : goal.returns-in_err-sent
returns-in_err-sent g c =
    let p = err_from_is_err_and c.from_residual.result c.from_residual.ensures.1 in
    let at = joined_at c.loop-withdrawn.withdrawn.now c.uid-item.result c.as_bytes.result.now c.in-len1-up.len_at_least
    c.uid-item.is c.as_bytes.ensures.value in
    rw (p.1, p.2) (goes_on_fails _ _ _ _ _ _ _ _ _ _ _ _ _ c.loop-withdrawn.invariant at c.in_err-sent.ensures)

pub returns-in_err-sent-2 : goal.returns-in_err-sent-2
returns-in_err-sent-2 g c =
    let p = err_from_is_err_and c.from_residual-in_err-sent-2.result c.from_residual-in_err-sent-2.ensures.1 in
    let at = joined_by c.loop-withdrawn.withdrawn.now c.uid-item.result c.as_bytes.result.now c.separator.result.now
    c.in-len1-up.len_at_least c.uid-item.is c.as_bytes.ensures.value c.separator.ensures in
    rw (p.1, p.2) (goes_on_fails _ _ _ _ _ _ _ _ _ _ _ _ _ (goes_on_piece _ _ _ _ _ _ _ _ _ _ _ _ _
    c.loop-withdrawn.invariant at c.in_ok-sent.ensures) refl c.in_err-sent-2.ensures)

pub loop-withdrawn-preserved : goal.loop-withdrawn-preserved
loop-withdrawn-preserved g c =
    let at = joined_by c.loop-withdrawn.withdrawn.now c.uid-item.result c.as_bytes.result.now c.separator.result.now
    c.in-len1-up.len_at_least c.uid-item.is c.as_bytes.ensures.value c.separator.ensures in
    goes_on_piece _ _ _ _ _ _ _ _ _ _ _ _ _ (goes_on_piece _ _ _ _ _ _ _ _ _ _ _ _ _
    c.loop-withdrawn.invariant at c.in_ok-sent.ensures) refl c.in_ok-sent-2.ensures
