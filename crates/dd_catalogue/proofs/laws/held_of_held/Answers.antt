use Rattle.std.proofs.Common.{[], ◌∷◌}
use Rattle.dd_catalogue.specs.CatalogueJoin.{held_of_held}
use Rattle.dd_catalogue.specs.Contents.{Contents}
use Rattle.dd_catalogue.proofs.laws.held_of_held.Goals as goal

pub returns-clause-both : goal.returns-clause-both
returns-clause-both c = held_of_held

pub returns-clause-version : goal.returns-clause-version
returns-clause-version g = λ c v.
    let one : Contents = record { versions = v ∷ []; withdrawn = [] } in
    held_of_held one c

pub returns-clause-withdrawn : goal.returns-clause-withdrawn
returns-clause-withdrawn g = λ c uid.
    let one : Contents = record { versions = []; withdrawn = uid ∷ [] } in
    held_of_held one c
