use Rattle.std.proofs.Common.{◌≡◌, ℕ, List, ◌++◌, refl, ap, ◌∙◌}
use Rattle.std.proofs.lemmas.Result.{err_from_is_err_and}
use Rattle.dd_stream.proofs.Going.{first_fails, then_sends, sends_same}
use Rattle.dd_records.specs.Cells.{even_value}
use Rattle.dd_dir.proofs.CellTexts.{cell_parts, cell_room}
use Rattle.dd_dir.proofs.cells.send_cell.Goals as goal

pub returns-in_err-sent : goal.returns-in_err-sent
returns-in_err-sent g c =
    let p = err_from_is_err_and c.from_residual.result c.from_residual.ensures.1 in
    let cell = c.args.cell.now in
    let value = c.as_bytes-value.result.now in
    let padding = c.padding-padding.result.now in
    let is : value ++ padding ≡ even_value cell.value =
    ap (λ (v : List ℕ). v ++ padding) c.as_bytes-value.ensures ∙ c.padding-padding.ensures.even in
    let room = cell_room cell.vr value padding _ is c.requires.short in
    rw (p.1, p.2) (sends_same _ _ _ _ _ _ _ _ (cell_parts cell.tag cell.vr _ value padding _ is refl)
    (first_fails _ _ _ _ _ _ _ _ (c.in_err-sent.ensures.sends room)))

pub returns-in_err-sent-2 : goal.returns-in_err-sent-2
returns-in_err-sent-2 g c =
    let p = err_from_is_err_and c.from_residual-in_err-sent-2.result c.from_residual-in_err-sent-2.ensures.1 in
    let cell = c.args.cell.now in
    let value = c.as_bytes-value.result.now in
    let padding = c.padding-padding.result.now in
    let is : value ++ padding ≡ even_value cell.value =
    ap (λ (v : List ℕ). v ++ padding) c.as_bytes-value.ensures ∙ c.padding-padding.ensures.even in
    let room = cell_room cell.vr value padding _ is c.requires.short in
    rw (p.1, p.2) (sends_same _ _ _ _ _ _ _ _ (cell_parts cell.tag cell.vr _ value padding _ is refl)
    (then_sends _ _ _ _ _ _ _ _ _ _ _ (c.in_ok-sent.ensures.sends room)
    (first_fails _ _ _ _ _ _ _ _ c.in_err-sent-2.ensures)))

pub returns : goal.returns
returns g c =
    let cell = c.args.cell.now in
    let value = c.as_bytes-value.result.now in
    let padding = c.padding-padding.result.now in
    let is : value ++ padding ≡ even_value cell.value =
    ap (λ (v : List ℕ). v ++ padding) c.as_bytes-value.ensures ∙ c.padding-padding.ensures.even in
    let room = cell_room cell.vr value padding _ is c.requires.short in
    sends_same _ _ _ _ _ _ _ _ (cell_parts cell.tag cell.vr _ value padding _ is refl)
    (then_sends _ _ _ _ _ _ _ _ _ _ _ (c.in_ok-sent.ensures.sends room)
    (then_sends _ _ _ _ _ _ _ _ _ _ _ c.in_ok-sent-2.ensures c.send-2.ensures))
