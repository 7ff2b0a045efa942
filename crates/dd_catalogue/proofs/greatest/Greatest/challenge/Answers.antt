use Rattle.std.proofs.Common.{◌≡◌, true, false, sym, ◌∙◌, ap, is_lt}
use Rattle.dd_catalogue.proofs.References.{lent_replaces, read_under}
use Rattle.dd_catalogue.proofs.Places.{by_key, put_keeps}
use Rattle.dd_catalogue.specs.Rising.{rising-put}
use Rattle.dd_catalogue.proofs.greatest.Greatest.challenge.Goals as goal

pub invariant_of-self : goal.invariant_of-self
invariant_of-self g c =
    let lt : is_lt (g.T.Ordered.order c.index.result.now.now c.args.value.now) ≡ true = sym (c.is_lt.ensures
    ∙ ap is_lt c.compare.ensures) ∙ c.if-is_lt.true in
    let is = lent_replaces (λ value. value.now) g.T.Keyed.key_of g.T.Ordered.order c.args.value
    c.self.inside.held.items c.args.index c.index.result.now c.self.invariant
    (rw (← c.self.view_is) at c.requires.within) (rw (← c.self.view_is) at c.requires.same) c.index.ensures lt in
    rw is (rising-put (by_key g.T.Keyed.key_of g.met.T.Ordered.total g.met.T.Ordered.apart) c.args.value.now _
    c.self.invariant)

pub returns-then-is_lt : goal.returns-then-is_lt
returns-then-is_lt g c =
    let lt : is_lt (g.T.Ordered.order c.index.result.now.now c.args.value.now) ≡ true = sym (c.is_lt.ensures
    ∙ ap is_lt c.compare.ensures) ∙ c.if-is_lt.true in
    rw (← c.self.view_is) (lent_replaces (λ value. value.now) g.T.Keyed.key_of g.T.Ordered.order c.args.value
    c.self.inside.held.items c.args.index c.index.result.now c.self.invariant
    (rw (← c.self.view_is) at c.requires.within) (rw (← c.self.view_is) at c.requires.same) c.index.ensures lt)

pub returns-else-is_lt : goal.returns-else-is_lt
returns-else-is_lt g c =
    let lt : is_lt (g.T.Ordered.order c.index.result.now.now c.args.value.now) ≡ false = sym (c.is_lt.ensures
    ∙ ap is_lt c.compare.ensures) ∙ c.if-is_lt.false in
    rw (← c.self.view_is) (put_keeps g.T.Keyed.key_of g.T.Ordered.order c.args.value.now _ c.args.index
    c.index.result.now.now c.self.invariant
    (rw (← c.self.view_is) at c.requires.within) (rw (← c.self.view_is) at c.requires.same)
    (read_under (λ value. value.now) c.self.inside.held.items c.args.index c.index.result.now c.index.ensures) lt)
