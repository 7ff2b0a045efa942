-- The digest and the head are the two parts of what is given.
use Rattle.dd_calls.proofs.HeadFiles.{head_stands}
use Rattle.dd_calls.proofs.laws.heads_stand_for_files.Goals as goal

pub returns : goal.returns
returns c = λ comparison standing head given same. head_stands comparison standing head given same
