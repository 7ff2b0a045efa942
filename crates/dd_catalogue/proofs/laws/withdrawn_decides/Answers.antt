use Rattle.dd_catalogue.proofs.FreeMembers.{withdrawn_decides}
use Rattle.dd_catalogue.specs.CatalogueJoin.{uids_ordered}
use Rattle.dd_catalogue.proofs.laws.withdrawn_decides.Goals as goal

pub returns : goal.returns
returns c = λ w uid. withdrawn_decides uids_ordered w uid
