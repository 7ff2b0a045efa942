use Rattle.dd_catalogue.proofs.Harmonised.{harmonised_is_one}
use Rattle.dd_catalogue.proofs.laws.harmonised_is_one.Goals as goal

pub returns : goal.returns
returns c = λ m one other left right. harmonised_is_one m one other left right
