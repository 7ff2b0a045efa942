use Rattle.dd_catalogue.proofs.FirstConflicts.{conflicts_decides}
use Rattle.dd_catalogue.proofs.laws.conflicts_decides.Goals as goal

pub returns : goal.returns
returns c = λ v w. conflicts_decides v w
