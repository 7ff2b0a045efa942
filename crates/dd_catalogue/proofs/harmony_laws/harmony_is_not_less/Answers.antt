use Rattle.dd_catalogue.proofs.Again.{harmony_is_not_less}
use Rattle.dd_catalogue.proofs.harmony_laws.harmony_is_not_less.Goals as goal

pub returns : goal.returns
returns c = λ m v w up there held same. harmony_is_not_less m v w up there held same
