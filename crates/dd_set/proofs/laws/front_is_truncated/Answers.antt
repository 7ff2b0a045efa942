use Rattle.dd_grammar.proofs.Laws.{front_too_short}
use Rattle.dd_set.proofs.laws.front_is_truncated.Goals as goal

pub returns : goal.returns
returns c = front_too_short
