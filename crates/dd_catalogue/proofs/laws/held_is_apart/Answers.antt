use Rattle.dd_catalogue.proofs.Held.{held_is_apart}
use Rattle.dd_catalogue.proofs.laws.held_is_apart.Goals as goal

pub returns : goal.returns
returns c = λ c v h there. held_is_apart c v h there
