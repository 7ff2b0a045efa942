use Rattle.std.proofs.lemmas.Result.{err_from_is_err_and}
use Rattle.dd_stream.proofs.Going.{goes_on_fails, goes_on_piece}
use Rattle.dd_set.proofs.Parts.{piece_at, pieces_rest}
use Rattle.dd_set.proofs.writing.send_fragments.Goals as goal

pub returns-in_err-sent : goal.returns-in_err-sent
returns-in_err-sent g c =
    let p = err_from_is_err_and c.from_residual.result c.from_residual.ensures.1 in
    rw (p.1, p.2) (goes_on_fails _ _ _ _ _ _ _ _ _ _ _ _ _ c.loop-fragment.invariant.goes
    (piece_at c.args.fragments.now c.loop-fragment.fragment-index _ c.loop-fragment-test.true) c.in_err-sent.ensures)

pub loop-fragment-preserved : goal.loop-fragment-preserved
loop-fragment-preserved g c =
    let fs = c.args.fragments.now in
    record {
      goes = goes_on_piece _ _ _ _ _ _ _ _ _ _ _ _ _ c.loop-fragment.invariant.goes
          (piece_at fs c.loop-fragment.fragment-index _ c.loop-fragment-test.true) c.in_ok-sent.ensures;
      valid = pieces_rest fs c.loop-fragment.fragment-index c.loop-fragment-test.true
          c.loop-fragment.invariant.valid;
    }
