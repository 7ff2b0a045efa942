use Rattle.dd_catalogue.proofs.Held.{held_of_same}
use Rattle.dd_catalogue.specs.Histories.{taken}
use Rattle.dd_catalogue.proofs.history.build_order_is_free.Goals as goal

pub returns : goal.returns
returns c = λ h g same. held_of_same (taken h) (taken g) same
