use Rattle.std.proofs.Common.{◌+◌, ◌<◌, ◌^◌, ◌++◌, length, Some, refl, arith}
use Rattle.std.proofs.lemmas.Result.{err_from_is_err_and}
use Rattle.dd_elem.specs.declared.vr.Vr.TheVariants.{UI}
use Rattle.dd_encoding.specs.Spelling.{header_text}
use Rattle.dd_stream.proofs.Going.{first_fails, then_sends, sends_same}
use Rattle.dd_encoding.proofs.Heads.{uid_parts}
use Rattle.dd_encoding.proofs.head.send_uid.Goals as goal

pub returns-in_err-sent-clause-sends : goal.returns-in_err-sent-clause-sends
returns-in_err-sent-clause-sends g c =
    let p = err_from_is_err_and c.from_residual.result c.from_residual.ensures.1 in
    let uid = c.args.uid.now in
    let padding = c.padding_for-padding.result.now in
    let n = length uid + length padding in
    let header = header_text c.args.tag (Some UI) n in
    let limit : length c.args.uid.now + length c.padding_for-padding.result.now < 2 ^ 16 = omega
    (arith, c.requires.short, c.padding_for-padding.ensures.few) in
    rw (p.1, p.2) (sends_same (header ++ (uid ++ padding)) _ _ _ _ _ _ _
    (uid_parts c.args.tag uid padding n c.padding_for-padding.ensures.exact refl)
    (first_fails header (uid ++ padding) _ _ _ _ _ _ (c.in_err-sent.ensures.sends limit)))

pub returns-in_err-sent-2-clause-sends : goal.returns-in_err-sent-2-clause-sends
returns-in_err-sent-2-clause-sends g c =
    let p = err_from_is_err_and c.from_residual-in_err-sent-2.result c.from_residual-in_err-sent-2.ensures.1 in
    let uid = c.args.uid.now in
    let padding = c.padding_for-padding.result.now in
    let n = length uid + length padding in
    let header = header_text c.args.tag (Some UI) n in
    let limit : length c.args.uid.now + length c.padding_for-padding.result.now < 2 ^ 16 = omega
    (arith, c.requires.short, c.padding_for-padding.ensures.few) in
    rw (p.1, p.2) (sends_same (header ++ (uid ++ padding)) _ _ _ _ _ _ _
    (uid_parts c.args.tag uid padding n c.padding_for-padding.ensures.exact refl)
    (then_sends header (uid ++ padding) _ _ _ _ _ _ _ _ _ (c.in_ok-sent.ensures.sends limit)
    (first_fails uid padding _ _ _ _ _ _ c.in_err-sent-2.ensures)))

pub returns-clause-sends : goal.returns-clause-sends
returns-clause-sends g c =
    let uid = c.args.uid.now in
    let padding = c.padding_for-padding.result.now in
    let n = length uid + length padding in
    let header = header_text c.args.tag (Some UI) n in
    let limit : length c.args.uid.now + length c.padding_for-padding.result.now < 2 ^ 16 = omega
    (arith, c.requires.short, c.padding_for-padding.ensures.few) in
    sends_same (header ++ (uid ++ padding)) _ _ _ _ _ _ _
    (uid_parts c.args.tag uid padding n c.padding_for-padding.ensures.exact refl)
    (then_sends header (uid ++ padding) _ _ _ _ _ _ _ _ _ (c.in_ok-sent.ensures.sends limit)
    (then_sends uid padding _ _ _ _ _ _ _ _ _ c.in_ok-sent-2.ensures c.send-2.ensures))
