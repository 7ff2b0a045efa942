use Rattle.dd_engine.proofs.OneOfVersions.{agree}
use Rattle.dd_engine.proofs.laws.same_versions_have_one_plan.Goals as goal

pub returns : goal.returns
returns c = λ choice limits limit contents other sources others first second one two same.
    agree choice limits limit contents other sources others first second one two same
