use Rattle.dd_grammar.proofs.Laws.{one_set}
use Rattle.dd_set.proofs.laws.bytes_spell_one_set.Goals as goal

pub returns : goal.returns
returns c = one_set
