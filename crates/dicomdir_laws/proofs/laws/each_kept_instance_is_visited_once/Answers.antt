use Rattle.dicomdir_laws.proofs.KeptListed.{lists_kept}
use Rattle.dicomdir_laws.proofs.laws.each_kept_instance_is_visited_once.Goals as goal

pub returns : goal.returns
returns c = λ verb given old new made. lists_kept verb given old new made
