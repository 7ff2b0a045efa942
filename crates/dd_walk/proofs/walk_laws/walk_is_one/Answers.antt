use Rattle.dd_walk.proofs.WalkFiles.{one_walk}
use Rattle.dd_walk.proofs.walk_laws.walk_is_one.Goals as goal

pub returns : goal.returns
returns c = one_walk
