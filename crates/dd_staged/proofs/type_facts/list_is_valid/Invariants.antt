use Rattle.dd_staged.proofs.Sound.{IsSoundFrom}
use Rattle.dd_staged.proofs.type_facts.list_is_valid.Given as goal

abbrev pub invariant-loop-staged : goal.invariant-loop-staged
invariant-loop-staged l = IsSoundFrom l.staged-index l.list
