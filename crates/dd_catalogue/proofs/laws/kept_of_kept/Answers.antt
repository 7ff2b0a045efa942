use Rattle.dd_catalogue.specs.FreeLaws.{kept_of_kept}
use Rattle.dd_catalogue.specs.Versions.{versions_ordered}
use Rattle.dd_catalogue.proofs.laws.kept_of_kept.Goals as goal

pub returns : goal.returns
returns c = λ s t w u. kept_of_kept versions_ordered s t w u
