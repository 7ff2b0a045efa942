use Rattle.std.proofs.Common.{rules, ◌≡◌, length}
use Rattle.std.proofs.lemmas.Result.{err_from_is_err_and}
use Rattle.dd_stream.proofs.Going.{first_fails, then_sends, sends_same}
use Rattle.dd_staged.specs.Cells.{cells_text}
use Rattle.dd_staged.proofs.ItemTexts.{item_parts}
use Rattle.dd_staged.proofs.writing.send_item_of.Goals as goal

pub returns-in_err-sent : goal.returns-in_err-sent
returns-in_err-sent g c =
    let p = err_from_is_err_and c.from_residual.result c.from_residual.ensures.1 in
    let count : c.unwrap-count.result ≡ length (cells_text c.args.cells.now) = search rules in
    rw (p.1, p.2) (sends_same _ _ _ _ _ _ _ _ (item_parts c.args.cells.now c.item_header.result _
    c.item_header.ensures count)
    (first_fails _ _ _ _ _ _ _ _ c.in_err-sent.ensures))

pub returns : goal.returns
returns g c =
    let count : c.unwrap-count.result ≡ length (cells_text c.args.cells.now) = search rules in
    sends_same _ _ _ _ _ _ _ _ (item_parts c.args.cells.now c.item_header.result _ c.item_header.ensures count)
    (then_sends _ _ _ _ _ _ _ _ _ _ _ c.in_ok-sent.ensures c.send_cells.ensures)
