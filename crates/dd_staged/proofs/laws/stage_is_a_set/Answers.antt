use Rattle.dd_staged.proofs.Valid.{stage_spells}
use Rattle.dd_staged.proofs.laws.stage_is_a_set.Goals as goal

pub returns : goal.returns
returns c = stage_spells
