use Rattle.std.proofs.Common.{◌<◌, ◌^◌, length, rules, arith}
use Rattle.std.proofs.lemmas.Result.{err_from_is_err_and}
use Rattle.dd_stream.proofs.Going.{first_fails, then_sends, sends_same}
use Rattle.dd_records.specs.Cells.{cell_element}
use Rattle.dd_dir.proofs.WithdrawalTexts.{creator_text, value_size, withdrawal_parts}
use Rattle.dd_dir.proofs.withdrawal_writing.send_withdrawals.Goals as goal

pub returns-in_err-sent : goal.returns-in_err-sent
returns-in_err-sent g c =
    let p = err_from_is_err_and c.from_residual.result c.from_residual.ensures.1 in
    let uids = c.args.withdrawn.now in
    let some : 0 < length uids = search rules in
    let whole = withdrawal_parts uids c.withdrawn_length-length.result some c.withdrawn_length-length.ensures.exact in
    let creator = creator_text (cell_element c.creator_cell.result) c.creator_cell.ensures.exact in
    rw (p.1, p.2) (sends_same _ _ _ _ _ _ _ _ whole (first_fails _ _ _ _ _ _ _ _
    (sends_same _ _ _ _ _ _ _ _ creator c.in_err-sent.ensures)))

pub returns-in_err-sent-2 : goal.returns-in_err-sent-2
returns-in_err-sent-2 g c =
    let p = err_from_is_err_and c.from_residual-in_err-sent-2.result c.from_residual-in_err-sent-2.ensures.1 in
    let uids = c.args.withdrawn.now in
    let some : 0 < length uids = search rules in
    let whole = withdrawal_parts uids c.withdrawn_length-length.result some c.withdrawn_length-length.ensures.exact in
    let creator = creator_text (cell_element c.creator_cell.result) c.creator_cell.ensures.exact in
    let size = value_size uids some in
    let room : c.withdrawn_length-length.result < 2 ^ 32 =
    omega (arith, c.withdrawn_length-length.ensures.exact, size, c.requires.small) in
    rw (p.1, p.2) (sends_same _ _ _ _ _ _ _ _ whole (then_sends _ _ _ _ _ _ _ _ _ _ _
    (sends_same _ _ _ _ _ _ _ _ creator c.in_ok-sent.ensures)
    (first_fails _ _ _ _ _ _ _ _ (c.in_err-sent-2.ensures.sends room))))

pub returns : goal.returns
returns g c =
    let uids = c.args.withdrawn.now in
    let some : 0 < length uids = search rules in
    let whole = withdrawal_parts uids c.withdrawn_length-length.result some c.withdrawn_length-length.ensures.exact in
    let creator = creator_text (cell_element c.creator_cell.result) c.creator_cell.ensures.exact in
    let size = value_size uids some in
    let room : c.withdrawn_length-length.result < 2 ^ 32 =
    omega (arith, c.withdrawn_length-length.ensures.exact, size, c.requires.small) in
    sends_same _ _ _ _ _ _ _ _ whole (then_sends _ _ _ _ _ _ _ _ _ _ _
    (sends_same _ _ _ _ _ _ _ _ creator c.in_ok-sent.ensures)
    (then_sends _ _ _ _ _ _ _ _ _ _ _ (c.in_ok-sent-2.ensures.sends room) c.send_value.ensures))
