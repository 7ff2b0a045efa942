use Rattle.std.proofs.Common.{◌≡◌, take, map}
use Rattle.dd_elem.specs.Ordered.{bytes_cmp}
use Rattle.dd_catalogue.specs.Best.{best}
use Rattle.dd_catalogue.proofs.greatest.Greatest.of.Given as goal

abbrev pub invariant-loop-value : goal.invariant-loop-value
invariant-loop-value g l = l.greatest ≡ best g.T.Keyed.key_of bytes_cmp g.T.Ordered.order (map (λ value. value.now)
    (take l.value-index l.value-items))
