-- The line of a piece more went, or the writer failed in it.
use Rattle.std.proofs.Common.{◌∙◌, ap}
use Rattle.dd_report.proofs.WithdrawnLines.{left, piece_fails, piece_went}
use Rattle.dd_report.proofs.listing.list_pieces.Goals as goal

pub returns-in_err-list_piece-clause-written : goal.returns-in_err-list_piece-clause-written
returns-in_err-list_piece-clause-written g c =
    piece_fails c.from_residual.result c.args.style c.args.value.now c.first_piece.result.0.now (left c.loop-rest.rest)
    (left c.first_piece.result.1) _ _ _ c.from_residual.ensures.0 (ap left c.in-Some.is ∙ c.first_piece.ensures)
    c.loop-rest.invariant.went c.in_err-list_piece.ensures.written

pub loop-rest-preserved : goal.loop-rest-preserved
loop-rest-preserved g c = record {
  same = c.in_ok-list_piece.ensures.same ∙ c.loop-rest.invariant.same;
  went = piece_went c.args.style c.args.value.now c.first_piece.result.0.now (left c.loop-rest.rest)
      (left c.first_piece.result.1) _ _ _
      (ap left c.in-Some.is ∙ c.first_piece.ensures) c.loop-rest.invariant.went c.in_ok-list_piece.ensures.written;
}
