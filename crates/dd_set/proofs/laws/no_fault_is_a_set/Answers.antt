use Rattle.dd_grammar.proofs.Laws.{no_fault}
use Rattle.dd_set.proofs.laws.no_fault_is_a_set.Goals as goal

pub returns : goal.returns
returns c = no_fault
