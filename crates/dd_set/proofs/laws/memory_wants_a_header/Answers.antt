use Rattle.dd_set.proofs.Unkept.{wants_a_header}
use Rattle.dd_set.proofs.laws.memory_wants_a_header.Goals as goal

pub returns : goal.returns
returns c = wants_a_header
