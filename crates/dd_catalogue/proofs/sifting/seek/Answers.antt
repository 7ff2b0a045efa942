use Rattle.std.proofs.Common.{◌≡◌, sym, ◌∙◌, ap}
use Rattle.std.specs.declared.cmp.Ordering.TheVariants.{Greater}
use Rattle.dd_elem.specs.Ordered.{bytes_cmp}
use Rattle.dd_catalogue.proofs.TakenOut.{all_greater}
use Rattle.dd_catalogue.proofs.sifting.seek.Goals as goal

pub returns-in-Greater-clause-index : goal.returns-in-Greater-clause-index
returns-in-Greater-clause-index c =
    let above : bytes_cmp c.index-keys-index.result c.args.key.now ≡ Greater =
    ap (λ y. bytes_cmp y c.args.key.now) (sym c.as_bytes.ensures.value) ∙ sym c.cmp.ensures ∙ c.in-Greater.is in (
      c.loop-index.invariant.within,
      c.loop-index.invariant.smaller,
      all_greater c.args.key.now c.index-keys-index.result c.args.keys.now c.loop-index.index c.requires.rising
          c.loop-index-test.true c.index-keys-index.is above,
    )
