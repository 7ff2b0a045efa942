use Rattle.dd_catalogue.proofs.References.{lent_between}
use Rattle.dd_catalogue.proofs.Places.{by_key}
use Rattle.dd_catalogue.specs.Rising.{rising-put}
use Rattle.dd_catalogue.proofs.greatest.Greatest.admit.Goals as goal

pub invariant_of-self-2 : goal.invariant_of-self-2
invariant_of-self-2 g c =
    let is = lent_between (λ value. value.now) g.T.Keyed.key_of g.T.Ordered.order c.args.value
    c.self.inside.held.items c.args.index
    (rw (← c.self.view_is) at c.requires.within) (rw (← c.self.view_is) at c.requires.smaller) (rw
    (← c.self.view_is) at c.requires.greater) in
    rw (c.in_ok-insert.ensures.items, is) (rising-put (by_key g.T.Keyed.key_of g.met.T.Ordered.total
    g.met.T.Ordered.apart) c.args.value.now _ c.self.invariant)

pub returns : goal.returns
returns g c =
    rw (c.in_ok-insert.ensures.items, ← c.self.view_is) (lent_between
    (λ value. value.now) g.T.Keyed.key_of g.T.Ordered.order c.args.value c.self.inside.held.items c.args.index
    (rw (← c.self.view_is) at c.requires.within) (rw (← c.self.view_is) at c.requires.smaller) (rw
    (← c.self.view_is) at c.requires.greater))
