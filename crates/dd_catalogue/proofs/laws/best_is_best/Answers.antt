use Rattle.dd_catalogue.proofs.BestMembers.{best_is_best}
use Rattle.dd_catalogue.specs.Versions.{versions_ordered}
use Rattle.dd_catalogue.proofs.laws.best_is_best.Goals as goal

pub returns : goal.returns
returns c = λ s. best_is_best versions_ordered s
