use Rattle.dd_catalogue.proofs.Again.{harmony_again_is_same}
use Rattle.dd_catalogue.proofs.harmony_laws.harmony_again_is_same.Goals as goal

pub returns : goal.returns
returns c = λ m. harmony_again_is_same m
