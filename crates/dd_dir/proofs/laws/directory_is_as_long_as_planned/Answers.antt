use Rattle.dd_dir.proofs.DirectoryTexts.{directory_length}
use Rattle.dd_dir.proofs.laws.directory_is_as_long_as_planned.Goals as goal

pub returns : goal.returns
returns c = directory_length
