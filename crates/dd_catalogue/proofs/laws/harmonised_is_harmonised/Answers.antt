use Rattle.dd_catalogue.proofs.Harmonised.{harmonised_is_harmonised}
use Rattle.dd_catalogue.proofs.laws.harmonised_is_harmonised.Goals as goal

pub returns : goal.returns
returns c = λ m up. harmonised_is_harmonised m up
