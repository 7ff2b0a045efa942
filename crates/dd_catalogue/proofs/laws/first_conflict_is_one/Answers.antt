use Rattle.dd_catalogue.proofs.FirstConflicts.{first_conflict_is_one}
use Rattle.dd_catalogue.proofs.laws.first_conflict_is_one.Goals as goal

pub returns : goal.returns
returns c = λ m one other up is is'. first_conflict_is_one m one other up is is'
