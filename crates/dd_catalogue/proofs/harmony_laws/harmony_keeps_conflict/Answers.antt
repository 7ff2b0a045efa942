use Rattle.dd_catalogue.proofs.Images.{harmony_keeps_conflict}
use Rattle.dd_catalogue.proofs.harmony_laws.harmony_keeps_conflict.Goals as goal

pub returns : goal.returns
returns c = λ m. harmony_keeps_conflict m
