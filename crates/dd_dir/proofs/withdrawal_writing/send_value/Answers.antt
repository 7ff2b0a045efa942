use Rattle.std.proofs.Common.{◌≡◌, ◌-◌, length, arith}
use Rattle.std.specs.List.{join_with_byte}
use Rattle.std.proofs.lemmas.Result.{err_from_is_err_and}
use Rattle.dd_stream.proofs.Going.{first_fails, then_sends, sends_same}
use Rattle.dd_dir.proofs.RecordTexts.{second_fits}
use Rattle.dd_dir.proofs.WithdrawalTexts.{joined_fits, value_parts}
use Rattle.dd_dir.proofs.withdrawal_writing.send_value.Goals as goal

pub send_joined-requires : goal.send_joined-requires
send_joined-requires g c = joined_fits c.args.withdrawn.now c.args.sent c.requires

pub returns-in_err-end : goal.returns-in_err-end
returns-in_err-end g c =
    let p = err_from_is_err_and c.from_residual.result c.from_residual.ensures.1 in
    rw (p.1, p.2) (sends_same _ _ _ _ _ _ _ _ (value_parts c.args.withdrawn.now)
    (first_fails _ _ _ _ _ _ _ _ c.in_err-end.ensures))

pub send-requires : goal.send-requires
send-requires g c =
    let joined = join_with_byte 0x5c c.args.withdrawn.now in
    let long : length joined ≡ c.in_ok-end.end - c.args.sent = omega (arith, c.in_ok-end.ensures.ok.0) in
    second_fits joined c.padding.result.now _ c.args.sent c.in_ok-end.end (c.padding.ensures joined long) c.requires
    c.in_ok-end.ensures.ok.0

pub returns : goal.returns
returns g c =
    let joined = join_with_byte 0x5c c.args.withdrawn.now in
    let long : length joined ≡ c.in_ok-end.end - c.args.sent = omega (arith, c.in_ok-end.ensures.ok.0) in
    sends_same _ _ _ _ _ _ _ _ (c.padding.ensures joined long)
    (then_sends _ _ _ _ _ _ _ _ _ _ _ c.in_ok-end.ensures c.send.ensures)
