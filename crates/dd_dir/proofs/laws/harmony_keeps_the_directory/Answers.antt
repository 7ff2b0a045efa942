use Rattle.std.proofs.Common.{ap}
use Rattle.dd_catalogue.proofs.Again.{harmony_again_is_same}
use Rattle.dd_dir.specs.Directories.{directory_of}
use Rattle.dd_dir.proofs.laws.harmony_keeps_the_directory.Goals as goal

pub returns : goal.returns
returns c = λ label m withdrawn.
    ap (λ versions. directory_of label versions withdrawn) (harmony_again_is_same m)
