use Rattle.dd_elem.specs.Ordered.{bytes_cmp}
use Rattle.dd_catalogue.specs.Free.{is_free}
use Rattle.dd_catalogue.specs.FreeLaws.{rising-filter}
use Rattle.dd_catalogue.proofs.best.Table.sift.Goals as goal

pub invariant_of-self : goal.invariant_of-self
invariant_of-self g c =
    rw c.sift.ensures.items (rising-filter g.T.Keyed.key_of bytes_cmp
    (λ v. is_free bytes_cmp c.args.keys.now (g.T.Keyed.key_of v)) c.self.inside.held.items c.self.invariant)
