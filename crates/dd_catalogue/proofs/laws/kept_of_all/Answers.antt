use Rattle.std.proofs.Common.{ap}
use Rattle.dd_catalogue.proofs.Held.{left_of_none}
use Rattle.dd_catalogue.specs.Versions.{best_of}
use Rattle.dd_catalogue.proofs.laws.kept_of_all.Goals as goal

pub returns : goal.returns
returns c = λ s. ap best_of (left_of_none s)
