use Rattle.std.proofs.Common.{◌≡◌, true, false, sym, ◌∙◌, ap, is_lt}
use Rattle.dd_catalogue.proofs.Places.{by_key, put_replaces, put_keeps, took_replaced, took_kept}
use Rattle.dd_catalogue.specs.Rising.{rising-put}
use Rattle.dd_catalogue.proofs.best.Table.challenge.Goals as goal

pub invariant_of-self : goal.invariant_of-self
invariant_of-self g c =
    let lt : is_lt (g.T.Ordered.order c.index.result.now c.args.value)
    ≡ true = sym (c.is_lt.ensures ∙ ap is_lt c.compare.ensures) ∙ c.if-is_lt.true in
    let is = put_replaces g.T.Keyed.key_of g.T.Ordered.order c.args.value c.self.inside.held.items c.args.index
    c.index.result.now c.self.invariant
    (rw (← c.self.view_is) at c.requires.within) (rw (← c.self.view_is) at c.requires.same) c.index.ensures lt in
    rw (c.replace.ensures.after, is) (rising-put
    (by_key g.T.Keyed.key_of g.met.T.Ordered.total g.met.T.Ordered.apart) c.args.value c.self.inside.held.items
    c.self.invariant)

pub returns-then-is_lt-clause-after : goal.returns-then-is_lt-clause-after
returns-then-is_lt-clause-after g c =
    let lt : is_lt (g.T.Ordered.order c.index.result.now c.args.value)
    ≡ true = sym (c.is_lt.ensures ∙ ap is_lt c.compare.ensures) ∙ c.if-is_lt.true in
    rw (c.replace.ensures.after, ← c.self.view_is)
    (put_replaces g.T.Keyed.key_of g.T.Ordered.order c.args.value c.self.inside.held.items c.args.index
    c.index.result.now c.self.invariant
    (rw (← c.self.view_is) at c.requires.within) (rw (← c.self.view_is) at c.requires.same) c.index.ensures lt)

pub returns-then-is_lt-clause-took : goal.returns-then-is_lt-clause-took
returns-then-is_lt-clause-took g c =
    let lt : is_lt (g.T.Ordered.order c.index.result.now c.args.value)
    ≡ true = sym (c.is_lt.ensures ∙ ap is_lt c.compare.ensures) ∙ c.if-is_lt.true in
    rw (c.replace.ensures.value, ← c.self.view_is)
    (took_replaced g.T.Keyed.key_of g.T.Ordered.order c.args.value c.self.inside.held.items c.args.index
    c.index.result.now c.index_mut.result.now
    c.self.invariant (rw (← c.self.view_is) at c.requires.within)
    (rw (← c.self.view_is) at c.requires.same) c.index.ensures c.index_mut.ensures.value lt)

pub returns-else-is_lt-clause-after : goal.returns-else-is_lt-clause-after
returns-else-is_lt-clause-after g c =
    let lt : is_lt (g.T.Ordered.order c.index.result.now c.args.value)
    ≡ false = sym (c.is_lt.ensures ∙ ap is_lt c.compare.ensures) ∙ c.if-is_lt.false in
    rw (← c.self.view_is) (put_keeps g.T.Keyed.key_of g.T.Ordered.order c.args.value c.self.inside.held.items
    c.args.index c.index.result.now c.self.invariant
    (rw (← c.self.view_is) at c.requires.within) (rw (← c.self.view_is) at c.requires.same) c.index.ensures lt)

pub returns-else-is_lt-clause-took : goal.returns-else-is_lt-clause-took
returns-else-is_lt-clause-took g c =
    let lt : is_lt (g.T.Ordered.order c.index.result.now c.args.value)
    ≡ false = sym (c.is_lt.ensures ∙ ap is_lt c.compare.ensures) ∙ c.if-is_lt.false in
    rw (← c.self.view_is) (took_kept g.T.Keyed.key_of g.T.Ordered.order c.args.value c.self.inside.held.items
    c.args.index c.index.result.now c.self.invariant
    (rw (← c.self.view_is) at c.requires.within) (rw (← c.self.view_is) at c.requires.same) c.index.ensures lt)
