use Rattle.dd_catalogue.proofs.References.{place_under, rising_under}
use Rattle.dd_catalogue.proofs.greatest.Greatest.index_of.Goals as goal

pub index_among-requires : goal.index_among-requires
index_among-requires g c = rw c.deref.ensures.value (rising_under
    (λ value. value.now) g.T.Keyed.key_of c.self.inside.held.items c.self.invariant)

pub returns-clause-index : goal.returns-clause-index
returns-clause-index g c =
    rw (← c.self.view_is) (place_under (λ value. value.now) g.T.Keyed.key_of c.args.key.now c.self.inside.held.items
    c.index_among.result (rw c.deref.ensures.value at c.index_among.ensures))
