use Rattle.dd_part10.proofs.HeadLaw.{head_is_file}
use Rattle.dd_part10.proofs.head.head_makes_file.Goals as goal

pub returns : goal.returns
returns c = head_is_file
