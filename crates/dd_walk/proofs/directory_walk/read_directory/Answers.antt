use Rattle.dd_walk.proofs.Deciding.{only_walk, only_fault}
use Rattle.dd_walk.proofs.directory_walk.read_directory.Goals as goal

pub returns-clause-only : goal.returns-clause-only
returns-clause-only c = λ walk is.
    only_walk c.args.bytes.now c.read_forest.result walk is c.read_forest.ensures.walk c.read_forest.ensures.refused

pub returns-clause-refuses : goal.returns-clause-refuses
returns-clause-refuses c = λ fault refuses.
    only_fault c.args.bytes.now c.read_forest.result fault refuses c.read_forest.ensures.walk
    c.read_forest.ensures.refused
