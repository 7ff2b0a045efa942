use Rattle.std.proofs.Common.{rules}
use Rattle.std.proofs.lemmas.Fn.{always_returns_same}
use Rattle.dd_elem.specs.Ordered.{bytes_cmp}
use Rattle.dd_catalogue.proofs.Places.{searched}
use Rattle.dd_catalogue.proofs.greatest.search.Goals as goal

pub returns : goal.returns
returns g c =
    let facts = c.binary_search_by.ensures in
    let found = facts.position (λ w. bytes_cmp (g.T.Keyed.key_of w.now) c.args.key.now) (always_returns_same _ _ _
    (λ a r f' called. search rules)) in
    searched (λ value. g.T.Keyed.key_of value.now) c.args.held.now c.requires c.args.key.now
    c.binary_search_by.result facts.bound found
