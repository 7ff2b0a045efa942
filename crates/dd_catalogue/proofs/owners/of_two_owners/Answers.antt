use Rattle.std.proofs.Common.{◌≡◌, ℕ, List, map}
use Rattle.std.proofs.lemmas.Result.{IfOk-weaker}
use Rattle.dd_elem.specs.Ordered.{bytes_cmp}
use Rattle.dd_version.specs.declared.parts.Parts.{Parts}
use Rattle.dd_catalogue.specs.Best.{best}
use Rattle.dd_catalogue.specs.Carriers.{carrier_cmp}
use Rattle.dd_catalogue.specs.Owners.{HasThoseOfTwoOwners}
use Rattle.dd_catalogue.proofs.Harmonies.{carriers_ordered}
use Rattle.dd_catalogue.proofs.Places.{by_key}
use Rattle.dd_catalogue.proofs.TwoOwners.{two_owners_from}
use Rattle.dd_catalogue.proofs.owners.of_two_owners.Goals as goal

pub returns : goal.returns
returns g c =
    let uid : Parts → List ℕ = λ v. g.T.Keyed.key_of (g.T.Tuple.tuple_of v) in
    let owner : Parts → List ℕ = λ v. g.O.Keyed.key_of (g.O.Tuple.tuple_of v) in
    let others : List Parts = map (λ one. one.now) c.in_ok-others.others.items in
    IfOk-weaker c.of.result (λ owned. owned ≡ best uid bytes_cmp (carrier_cmp g.T.Tuple.tuple_of g.T.Ordered.order) others)
    (λ owned. HasThoseOfTwoOwners uid owner c.args.carriers.now owned)
    (λ owned is. two_owners_from owner (carriers_ordered g.T.Tuple.tuple_of
    (by_key g.T.Keyed.key_of g.met.T.Ordered.total g.met.T.Ordered.apart)) c.args.carriers.now c.args.table.now others
    owned c.requires c.in_ok-others.ensures is)
    c.of.ensures
