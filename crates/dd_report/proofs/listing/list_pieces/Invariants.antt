-- The lines of the pieces so far went, and the other pieces are left.
use Rattle.std.proofs.Common.{◌≡◌, length}
use Rattle.dd_lines.specs.Telling.{way_of}
use Rattle.dd_report.proofs.WithdrawnLines.{PiecesWent, left}
use Rattle.dd_report.proofs.listing.list_pieces.Given as goal

abbrev pub invariant-loop-rest : goal.invariant-loop-rest
invariant-loop-rest g l = record {
  same : l.lines.to.ghost_name ≡ l.initial.lines.to.ghost_name;
  went : PiecesWent l.style l.value (left l.rest) (way_of g.W.Write l.initial.lines) (way_of g.W.Write l.lines);
}

abbrev pub decreases-loop-rest : goal.decreases-loop-rest
decreases-loop-rest g l = length (left l.rest)
