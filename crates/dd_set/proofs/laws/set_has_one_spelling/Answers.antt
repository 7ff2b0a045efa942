use Rattle.dd_grammar.proofs.Laws.{one_spelling}
use Rattle.dd_set.proofs.laws.set_has_one_spelling.Goals as goal

pub returns : goal.returns
returns c = one_spelling
