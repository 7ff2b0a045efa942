use Rattle.dd_layout.proofs.RowsByWalk.{rows_by_walk}
use Rattle.dd_layout.proofs.laws.walk_gives_the_tree.Goals as goal

pub returns : goal.returns
returns c = rows_by_walk
