use Rattle.dd_staged.proofs.Valid.{one_list}
use Rattle.dd_staged.proofs.laws.stage_has_one_list.Goals as goal

pub returns : goal.returns
returns c = one_list
