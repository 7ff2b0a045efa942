use Rattle.std.proofs.Common.{ap}
use Rattle.dd_catalogue.specs.Contents.{Contents}
use Rattle.dd_catalogue.proofs.Held.{held_of_same}
use Rattle.dd_catalogue.specs.Histories.{taken}
use Rattle.dd_dir.specs.Directories.{directory}
use Rattle.dd_dir.proofs.laws.same_versions_same_directory.Goals as goal

pub returns : goal.returns
returns c = λ label h g same.
    ap (λ (x : Contents). directory label x.versions x.withdrawn) (held_of_same (taken h) (taken g) same)
