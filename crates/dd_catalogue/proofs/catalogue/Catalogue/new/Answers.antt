use Rattle.dd_catalogue.specs.Contents.{nothing}
use Rattle.dd_catalogue.specs.CatalogueJoin.{held_is_held}
use Rattle.dd_catalogue.proofs.catalogue.Catalogue.new.Goals as goal

pub invariant_of-result : goal.invariant_of-result
invariant_of-result c = rw (c.new.ensures, c.new-2.ensures) (held_is_held nothing)
