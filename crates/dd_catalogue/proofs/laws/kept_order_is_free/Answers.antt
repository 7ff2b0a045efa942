use Rattle.dd_catalogue.proofs.FreeMembers.{kept_of_same}
use Rattle.dd_catalogue.specs.CatalogueJoin.{uids_ordered}
use Rattle.dd_catalogue.specs.Versions.{versions_ordered}
use Rattle.dd_catalogue.proofs.laws.kept_order_is_free.Goals as goal

pub returns : goal.returns
returns c = λ s t w u same same'. kept_of_same versions_ordered uids_ordered s t w u same same'
