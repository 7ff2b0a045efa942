use Rattle.std.proofs.Common.{sym}
use Rattle.dd_catalogue.proofs.Places.{by_key, put_between}
use Rattle.dd_catalogue.specs.Rising.{rising-put}
use Rattle.dd_catalogue.proofs.best.Table.admit.Goals as goal

pub invariant_of-self : goal.invariant_of-self
invariant_of-self g c = rw c.in-Err.ensures.items c.self.invariant

pub invariant_of-self-2 : goal.invariant_of-self-2
invariant_of-self-2 g c =
    let is = put_between g.T.Keyed.key_of g.T.Ordered.order c.args.value c.self.inside.held.items c.args.index
    (rw (← c.self.view_is) at c.requires.within) (rw (← c.self.view_is) at c.requires.smaller)
    (rw (← c.self.view_is) at c.requires.greater) in
    rw (c.in_default.ensures.items, ← is) (rising-put
    (by_key g.T.Keyed.key_of g.met.T.Ordered.total g.met.T.Ordered.apart) c.args.value c.self.inside.held.items
    c.self.invariant)

pub returns-clause-ok : goal.returns-clause-ok
returns-clause-ok g c =
    rw (c.in_default.ensures.items, ← c.self.view_is)
    (sym (put_between g.T.Keyed.key_of g.T.Ordered.order c.args.value c.self.inside.held.items c.args.index
    (rw (← c.self.view_is) at c.requires.within) (rw (← c.self.view_is) at c.requires.smaller)
    (rw (← c.self.view_is) at c.requires.greater)))
