use Rattle.std.proofs.Common.{◌≡◌, sym, ◌∙◌, ap, length}
use Rattle.std.specs.declared.cmp.Ordering.TheVariants.{Less}
use Rattle.dd_elem.specs.Ordered.{bytes_cmp}
use Rattle.dd_catalogue.proofs.Places.{place_past}
use Rattle.dd_catalogue.proofs.best.Table.index_of.Goals as goal

pub returns-in-Less-clause-index : goal.returns-in-Less-clause-index
returns-in-Less-clause-index g c =
    let long : c.len.result ≡ length c.deref.result.now = c.len.ensures ∙ sym c.deref.ensures.len in
    let less : bytes_cmp (g.T.Keyed.key_of c.in-Some.last.now) c.args.key.now ≡ Less =
    ap (λ y. bytes_cmp y c.args.key.now) (sym c.key.ensures) ∙ sym c.cmp.ensures ∙ c.in-Less.is in
    rw (long, ← c.self.view_is, ← c.deref.ensures.value)
    (place_past g.T.Keyed.key_of c.args.key.now c.in-Some.last.now c.deref.result.now
    (rw c.deref.ensures.value c.self.invariant) (sym c.in-Some.ensures.value) less)
