use Rattle.dd_catalogue.proofs.BestOfBests.{best_of_bests}
use Rattle.dd_catalogue.specs.Versions.{versions_ordered}
use Rattle.dd_catalogue.proofs.laws.best_of_bests.Goals as goal

pub returns : goal.returns
returns c = λ s t. best_of_bests versions_ordered s t
