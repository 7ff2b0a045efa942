use Rattle.dd_catalogue.proofs.SameVersions.{equal_is_same}
use Rattle.dd_catalogue.proofs.laws.equal_is_same.Goals as goal

pub returns : goal.returns
returns c = equal_is_same
