use Rattle.dd_walk.proofs.WalkFiles.{one_refusal, walk_or_fault, walk_or_not}
use Rattle.dd_walk.proofs.walk_laws.walk_or_refusal.Goals as goal

pub returns-clause-either : goal.returns-clause-either
returns-clause-either c = walk_or_fault

pub returns-clause-never_both : goal.returns-clause-never_both
returns-clause-never_both c = walk_or_not

pub returns-clause-one_fault : goal.returns-clause-one_fault
returns-clause-one_fault c = one_refusal
