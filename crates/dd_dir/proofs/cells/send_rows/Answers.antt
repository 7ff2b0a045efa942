use Rattle.std.proofs.lemmas.Result.{err_from_is_err_and}
use Rattle.dd_stream.proofs.Going.{goes_on_fails, goes_on_piece}
use Rattle.dd_dir.proofs.RowTexts.{row_sends, row_short, row_skips}
use Rattle.dd_dir.proofs.cells.send_rows.Goals as goal
use Rattle.dd_dir.proofs.cells.send_rows.Goals.{in-Some+in_ok-sent, in_default}

pub returns-in_err-sent-clause-sends : goal.returns-in_err-sent-clause-sends
returns-in_err-sent-clause-sends g c =
    let p = err_from_is_err_and c.from_residual.result c.from_residual.ensures.1 in
    let at = row_sends c.args.planned.now c.args.parts.now c.args.rows.now c.loop-row.row-index _ c.cell.result
    c.in-Some.cell c.loop-row-test.true c.cell.ensures.exact c.in-Some.is in
    rw (p.1, p.2) (goes_on_fails _ _ _ _ _ _ _ _ _ _ _ _ _ c.loop-row.invariant.goes at c.in_err-sent.ensures)

pub loop-row-preserved : goal.loop-row-preserved
loop-row-preserved g c =
    let short = row_short c.args.planned.now c.args.parts.now c.args.rows.now c.loop-row.row-index _ c.cell.result
    c.loop-row-test.true c.cell.ensures.exact c.cell.ensures.short in
    elim c.match-cell.branch [
      | in-Some+in_ok-sent w ↦
          let at = row_sends c.args.planned.now c.args.parts.now c.args.rows.now c.loop-row.row-index _ c.cell.result
          w.in-Some.cell c.loop-row-test.true c.cell.ensures.exact w.in-Some.is in
          rw (w.writer-is, w.sent-is) (record {
            goes = goes_on_piece _ _ _ _ _ _ _ _ _ _ _ _ _ c.loop-row.invariant.goes at w.in_ok-sent.ensures;
            short = λ rest. c.loop-row.invariant.short (short rest);
          })
      | in_default w ↦
          let at = row_skips c.args.planned.now c.args.parts.now c.args.rows.now c.loop-row.row-index _ c.cell.result
          c.loop-row-test.true c.cell.ensures.exact w.in_default.is in
          rw (w.writer-is, w.sent-is) (record {
            goes = rw (← at) c.loop-row.invariant.goes;
            short = λ rest. c.loop-row.invariant.short (short rest);
          })
    ]
