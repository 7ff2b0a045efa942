use Rattle.std.proofs.Common.{◌≡◌, sym, ◌∙◌, ap}
use Rattle.std.specs.declared.cmp.Ordering.TheVariants.{Less}
use Rattle.dd_elem.specs.Ordered.{bytes_cmp}
use Rattle.dd_catalogue.proofs.Places.{place_past}
use Rattle.dd_catalogue.proofs.greatest.index_among.Goals as goal

pub returns-in-Less : goal.returns-in-Less
returns-in-Less g c =
    let less : bytes_cmp (g.T.Keyed.key_of c.in-Some.last.now.now) c.args.key.now ≡ Less =
    ap (λ y. bytes_cmp y c.args.key.now) (sym c.key.ensures) ∙ sym c.cmp.ensures ∙ c.in-Less.is in
    place_past (λ value. g.T.Keyed.key_of value.now) c.args.key.now c.in-Some.last.now c.args.held.now c.requires
    (sym c.in-Some.ensures.value) less
