use Rattle.std.proofs.Common.{◌≡◌, ℕ, List, ◌++◌, refl, ap, ◌∙◌}
use Rattle.std.proofs.lemmas.Result.{err_from_is_err_and}
use Rattle.dd_stream.proofs.Going.{first_fails, then_sends, sends_same}
use Rattle.dd_staged.specs.Cells.{cell_value}
use Rattle.dd_staged.proofs.CellTexts.{cell_parts, value_room}
use Rattle.dd_staged.proofs.cell.send_cell.Goals as goal

pub returns-in_err-sent : goal.returns-in_err-sent
returns-in_err-sent g c =
    let p = err_from_is_err_and c.from_residual.result c.from_residual.ensures.1 in
    let cell = c.args.cell.now in
    let value = c.as_bytes-value.result.now in
    let end = c.end-end.result.now in
    let is : value ++ end ≡ cell_value cell.value =
    ap (λ (v : List ℕ). v ++ end) c.as_bytes-value.ensures.value ∙ c.end-end.ensures.exact in
    let room = value_room cell value end is c.requires.small c.requires.room
    c.as_bytes-value.ensures.short in
    rw (p.1, p.2) (sends_same _ _ _ _ _ _ _ _ (cell_parts cell.tag cell.vr _ value end _ is refl)
    (first_fails _ _ _ _ _ _ _ _ (c.in_err-sent.ensures.sends room)))

pub returns-in_err-sent-2 : goal.returns-in_err-sent-2
returns-in_err-sent-2 g c =
    let p = err_from_is_err_and c.from_residual-in_err-sent-2.result c.from_residual-in_err-sent-2.ensures.1 in
    let cell = c.args.cell.now in
    let value = c.as_bytes-value.result.now in
    let end = c.end-end.result.now in
    let is : value ++ end ≡ cell_value cell.value =
    ap (λ (v : List ℕ). v ++ end) c.as_bytes-value.ensures.value ∙ c.end-end.ensures.exact in
    let room = value_room cell value end is c.requires.small c.requires.room
    c.as_bytes-value.ensures.short in
    rw (p.1, p.2) (sends_same _ _ _ _ _ _ _ _ (cell_parts cell.tag cell.vr _ value end _ is refl)
    (then_sends _ _ _ _ _ _ _ _ _ _ _ (c.in_ok-sent.ensures.sends room)
    (first_fails _ _ _ _ _ _ _ _ c.in_err-sent-2.ensures)))

pub returns : goal.returns
returns g c =
    let cell = c.args.cell.now in
    let value = c.as_bytes-value.result.now in
    let end = c.end-end.result.now in
    let is : value ++ end ≡ cell_value cell.value =
    ap (λ (v : List ℕ). v ++ end) c.as_bytes-value.ensures.value ∙ c.end-end.ensures.exact in
    let room = value_room cell value end is c.requires.small c.requires.room
    c.as_bytes-value.ensures.short in
    sends_same _ _ _ _ _ _ _ _ (cell_parts cell.tag cell.vr _ value end _ is refl)
    (then_sends _ _ _ _ _ _ _ _ _ _ _ (c.in_ok-sent.ensures.sends room)
    (then_sends _ _ _ _ _ _ _ _ _ _ _ c.in_ok-sent-2.ensures c.send-2.ensures))
