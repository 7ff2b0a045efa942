use Rattle.dd_staged.proofs.SameElements.{AgreeUpTo}
use Rattle.dd_staged.proofs.comparing.are_cells.Given as goal

abbrev pub invariant-loop-at : goal.invariant-loop-at
invariant-loop-at l = AgreeUpTo l.elements l.cells l.at
