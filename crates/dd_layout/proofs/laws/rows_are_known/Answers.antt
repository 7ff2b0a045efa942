use Rattle.dd_layout.proofs.Neighbourhood.{rows_are_known}
use Rattle.dd_layout.proofs.laws.rows_are_known.Goals as goal

pub returns : goal.returns
returns c = rows_are_known
