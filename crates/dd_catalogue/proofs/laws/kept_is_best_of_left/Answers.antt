use Rattle.dd_catalogue.proofs.BestMembers.{best_is_best}
use Rattle.dd_catalogue.specs.Contents.{left_of}
use Rattle.dd_catalogue.specs.Versions.{versions_ordered}
use Rattle.dd_catalogue.proofs.laws.kept_is_best_of_left.Goals as goal

pub returns : goal.returns
returns c = λ s w. best_is_best versions_ordered (left_of s w)
