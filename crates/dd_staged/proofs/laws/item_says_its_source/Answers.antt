use Rattle.dd_staged.proofs.Back.{source_back}
use Rattle.dd_staged.proofs.laws.item_says_its_source.Goals as goal

pub returns : goal.returns
returns c = source_back
