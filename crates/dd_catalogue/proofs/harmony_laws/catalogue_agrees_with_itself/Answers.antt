use Rattle.dd_catalogue.proofs.Agreements.{catalogue_agrees_with_itself}
use Rattle.dd_catalogue.proofs.harmony_laws.catalogue_agrees_with_itself.Goals as goal

pub returns : goal.returns
returns c = λ m up. catalogue_agrees_with_itself m up
