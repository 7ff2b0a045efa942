use Rattle.std.proofs.Common.{arith}
use Rattle.std.proofs.lemmas.Result.{err_from_is_err_and}
use Rattle.dd_stream.proofs.Going.{goes_on_fails, goes_on_piece}
use Rattle.dd_staged.proofs.ItemTexts.{source_at, source_length_at}
use Rattle.dd_staged.proofs.writing.send_items.Goals as goal

pub returns-in_err-sent : goal.returns-in_err-sent
returns-in_err-sent g c =
    let p = err_from_is_err_and c.from_residual.result c.from_residual.ensures.1 in
    rw (p.1, p.2) (goes_on_fails _ _ _ _ _ _ _ _ _ _ _ _ _ c.loop-staged.invariant.goes
    (source_at c.args.list.now c.loop-staged.staged-index c.staged-item.result c.loop-staged-test.true
    c.staged-item.is) c.in_err-sent.ensures)

pub loop-staged-preserved : goal.loop-staged-preserved
loop-staged-preserved g c =
    let more = source_length_at c.args.list.now c.loop-staged.staged-index c.staged-item.result
    c.loop-staged-test.true c.staged-item.is in
    record {
      goes = goes_on_piece _ _ _ _ _ _ _ _ _ _ _ _ _ c.loop-staged.invariant.goes
          (source_at c.args.list.now c.loop-staged.staged-index c.staged-item.result c.loop-staged-test.true
          c.staged-item.is) c.in_ok-sent.ensures;
      small = omega (arith, more, c.loop-staged.invariant.small);
    }
