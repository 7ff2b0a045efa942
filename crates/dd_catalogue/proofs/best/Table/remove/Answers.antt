use Rattle.std.proofs.Common.{[], ◌∷◌, sym, ◌∙◌, subst}
use Rattle.dd_elem.specs.Ordered.{bytes_cmp}
use Rattle.dd_catalogue.specs.Best.{IsRising}
use Rattle.dd_catalogue.specs.Free.{is_free}
use Rattle.dd_catalogue.specs.FreeLaws.{rising-filter}
use Rattle.dd_catalogue.proofs.Places.{at_between, at_read}
use Rattle.dd_catalogue.proofs.TakenOut.{free_at, free_of_absent}
use Rattle.dd_catalogue.proofs.best.Table.remove.Goals as goal

pub invariant_of-self : goal.invariant_of-self
invariant_of-self g c =
    let found = rw (c.in-Ok.is, ← c.self.view_is) at c.index_of.ensures.index in
    let is = free_at g.T.Keyed.key_of c.args.key.now c.self.inside.held.items c.in-Ok.index c.remove.result
    c.self.invariant found.0 (found.1 c.remove.result) in
    subst (λ m. IsRising g.T.Keyed.key_of bytes_cmp m) (is ∙ sym c.remove.ensures.by_index.2)
    (rising-filter g.T.Keyed.key_of bytes_cmp (λ v. is_free bytes_cmp (c.args.key.now ∷ []) (g.T.Keyed.key_of v))
    c.self.inside.held.items c.self.invariant)

pub returns-in-Ok-clause-after : goal.returns-in-Ok-clause-after
returns-in-Ok-clause-after g c =
    let found = rw (c.in-Ok.is, ← c.self.view_is) at c.index_of.ensures.index in
    rw (← c.self.view_is) (c.remove.ensures.by_index.2 ∙ sym (free_at g.T.Keyed.key_of c.args.key.now
    c.self.inside.held.items c.in-Ok.index c.remove.result c.self.invariant found.0 (found.1 c.remove.result)))

pub returns-in-Ok-clause-value : goal.returns-in-Ok-clause-value
returns-in-Ok-clause-value g c =
    let found = rw (c.in-Ok.is, ← c.self.view_is) at c.index_of.ensures.index in
    rw (← c.self.view_is) (sym (at_read g.T.Keyed.key_of c.args.key.now c.self.inside.held.items c.in-Ok.index
    c.remove.result c.self.invariant found.0 found.1 c.remove.ensures.value))

pub returns-in-Err-clause-after : goal.returns-in-Err-clause-after
returns-in-Err-clause-after g c =
    let found = rw c.in-Err.is at c.index_of.ensures.index in
    sym (free_of_absent g.T.Keyed.key_of c.args.key.now c.args.self.now
    (at_between g.T.Keyed.key_of c.args.key.now c.args.self.now c.in-Err.field-0 found.1 found.2))

pub returns-in-Err-clause-value : goal.returns-in-Err-clause-value
returns-in-Err-clause-value g c =
    let found = rw c.in-Err.is at c.index_of.ensures.index in
    sym (at_between g.T.Keyed.key_of c.args.key.now c.args.self.now c.in-Err.field-0 found.1 found.2)
