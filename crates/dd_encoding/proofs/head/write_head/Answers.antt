use Rattle.std.proofs.Common.{◌++◌, length, replicate}
use Rattle.std.proofs.lemmas.Result.{err_from_is_err_and}
use Rattle.dd_stream.proofs.Going.{first_fails, then_sends, sends_same}
use Rattle.dd_encoding.specs.Head.{prefix, group_length_text}
use Rattle.dd_encoding.specs.Head.{head_text, group_text}
use Rattle.dd_encoding.proofs.Heads.{count_text}
use Rattle.dd_encoding.proofs.head.write_head.Goals as goal

pub returns-in_err-sent : goal.returns-in_err-sent
unfolding head_text
returns-in_err-sent g c =
    let p = err_from_is_err_and c.from_residual.result c.from_residual.ensures.1 in
    let group = group_text c.args.meta.now in
    let after = prefix ++ (group_length_text (length group) ++ group) in
    rw (p.1, p.2) (first_fails (replicate 128 0) after _ _ _ _ _ _ c.in_err-sent.ensures)

pub returns-in_err-sent-2 : goal.returns-in_err-sent-2
unfolding head_text
returns-in_err-sent-2 g c =
    let p = err_from_is_err_and c.from_residual-in_err-sent-2.result c.from_residual-in_err-sent-2.ensures.1 in
    let group = group_text c.args.meta.now in
    let counted = group_length_text (length group) ++ group in
    rw (p.1, p.2) (then_sends (replicate 128 0) (prefix ++ counted) _ _ _ _ _ _ _ _ _ c.in_ok-sent.ensures
    (first_fails prefix counted _ _ _ _ _ _ c.in_err-sent-2.ensures))

pub returns-in_err-sent-3 : goal.returns-in_err-sent-3
unfolding head_text
returns-in_err-sent-3 g c =
    let p = err_from_is_err_and c.from_residual-in_err-sent-3.result c.from_residual-in_err-sent-3.ensures.1 in
    let group = group_text c.args.meta.now in
    let count = group_length_text (length group) in
    let is = count_text _ _ _ c.to_le_bytes-count.ensures c.group_size.ensures.exact in
    rw (p.1, p.2) (then_sends (replicate 128 0) (prefix ++ (count ++ group)) _ _ _ _ _ _ _ _ _ c.in_ok-sent.ensures
    (then_sends prefix (count ++ group) _ _ _ _ _ _ _ _ _ c.in_ok-sent-2.ensures
    (first_fails count group _ _ _ _ _ _ (sends_same _ count _ _ _ _ _ _ is c.in_err-sent-3.ensures))))

pub returns : goal.returns
unfolding head_text
returns g c =
    let group = group_text c.args.meta.now in
    let count = group_length_text (length group) in
    let is = count_text _ _ _ c.to_le_bytes-count.ensures c.group_size.ensures.exact in
    then_sends (replicate 128 0) (prefix ++ (count ++ group)) _ _ _ _ _ _ _ _ _ c.in_ok-sent.ensures
    (then_sends prefix (count ++ group) _ _ _ _ _ _ _ _ _ c.in_ok-sent-2.ensures
    (then_sends count group _ _ _ _ _ _ _ _ _ (sends_same _ count _ _ _ _ _ _ is c.in_ok-sent-3.ensures)
    c.send_group.ensures))
