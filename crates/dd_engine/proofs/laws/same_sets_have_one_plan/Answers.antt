use Rattle.dd_engine.proofs.SameSets.{sets_agree}
use Rattle.dd_engine.proofs.laws.same_sets_have_one_plan.Goals as goal

pub returns : goal.returns
returns c = λ choice limits sets others first second one two same.
    sets_agree choice limits sets others first second one two same
