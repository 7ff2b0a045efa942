use Rattle.dd_staged.proofs.ReadStage.{found_digest, only_fault, only_list}
use Rattle.dd_staged.proofs.reading.read_stage.Goals as goal

pub returns-clause-digest : goal.returns-clause-digest
returns-clause-digest c = found_digest c.args.bytes.now c.read_list.result c.read_list.ensures.found

pub returns-clause-only : goal.returns-clause-only
returns-clause-only c =
    only_list c.args.bytes.now c.read_list.result c.read_list.ensures.found c.read_list.ensures.bad

pub returns-clause-refused : goal.returns-clause-refused
returns-clause-refused c =
    only_fault c.args.bytes.now c.read_list.result c.read_list.ensures.found c.read_list.ensures.bad
