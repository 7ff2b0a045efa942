use Rattle.std.proofs.Common.{arith}
use Rattle.std.proofs.lemmas.Result.{err_from_is_err_and}
use Rattle.dd_stream.proofs.Going.{goes_on_fails, goes_on_piece}
use Rattle.dd_staged.proofs.CellTexts.{cell_at, cell_length_at, rest_room}
use Rattle.dd_staged.proofs.cell.send_cells.Goals as goal

pub returns-in_err-sent : goal.returns-in_err-sent
returns-in_err-sent g c =
    let p = err_from_is_err_and c.from_residual.result c.from_residual.ensures.1 in
    rw (p.1, p.2) (goes_on_fails _ _ _ _ _ _ _ _ _ _ _ _ _ c.loop-cell.invariant.goes
    (cell_at c.args.cells.now c.loop-cell.cell-index c.cell-item.result
    c.loop-cell-test.true c.cell-item.is) c.in_err-sent.ensures)

pub loop-cell-preserved : goal.loop-cell-preserved
loop-cell-preserved g c =
    let more = cell_length_at c.args.cells.now c.loop-cell.cell-index c.cell-item.result c.loop-cell-test.true
    c.cell-item.is in
    record {
      goes = goes_on_piece _ _ _ _ _ _ _ _ _ _ _ _ _ c.loop-cell.invariant.goes
          (cell_at c.args.cells.now c.loop-cell.cell-index c.cell-item.result
          c.loop-cell-test.true c.cell-item.is) c.in_ok-sent.ensures;
      small = omega (arith, more, c.loop-cell.invariant.small);
      room = rest_room c.args.cells.now c.loop-cell.cell-index c.loop-cell.invariant.room;
    }

pub send_cell-requires-clause-small : goal.send_cell-requires-clause-small
send_cell-requires-clause-small g c =
    let more = cell_length_at c.args.cells.now c.loop-cell.cell-index c.cell-item.result c.loop-cell-test.true
    c.cell-item.is in
    omega (arith, more, c.loop-cell.invariant.small)
