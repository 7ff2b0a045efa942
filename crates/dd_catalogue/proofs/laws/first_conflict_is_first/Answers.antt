use Rattle.dd_catalogue.proofs.FirstConflicts.{first_conflict_is_first}
use Rattle.dd_catalogue.proofs.laws.first_conflict_is_first.Goals as goal

pub returns : goal.returns
returns c = λ m up. first_conflict_is_first m up
