use Rattle.std.proofs.lemmas.Result.{err_from_is_err_and}
use Rattle.dd_stream.proofs.Going.{goes_on_fails, goes_on_piece}
use Rattle.dd_dir.proofs.CellTexts.{cell_at, rest_short}
use Rattle.dd_dir.proofs.cells.send_cells.Goals as goal

pub returns-in_err-sent : goal.returns-in_err-sent
returns-in_err-sent g c =
    let p = err_from_is_err_and c.from_residual.result c.from_residual.ensures.1 in
    rw (p.1, p.2) (goes_on_fails _ _ _ _ _ _ _ _ _ _ _ _ _ c.loop-cell.invariant.goes
    (cell_at c.args.cells.now c.loop-cell.cell-index _ c.loop-cell-test.true) c.in_err-sent.ensures)

pub loop-cell-preserved : goal.loop-cell-preserved
loop-cell-preserved g c = record {
  goes = goes_on_piece _ _ _ _ _ _ _ _ _ _ _ _ _ c.loop-cell.invariant.goes
      (cell_at c.args.cells.now c.loop-cell.cell-index _ c.loop-cell-test.true) c.in_ok-sent.ensures;
  short = rest_short c.args.cells.now c.loop-cell.cell-index c.loop-cell.invariant.short;
}
