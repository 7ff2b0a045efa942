use Rattle.dd_catalogue.proofs.BestMembers.{same_best}
use Rattle.dd_catalogue.specs.Versions.{versions_ordered}
use Rattle.dd_catalogue.proofs.laws.best_is_one.Goals as goal

pub returns : goal.returns
returns c = λ s t m n same left right. same_best versions_ordered s t m n same left right
