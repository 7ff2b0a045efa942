use Rattle.std.proofs.Common.{map}
use Rattle.std.proofs.lemmas.List.Sorted.{IsPermutation-map}
use Rattle.dd_catalogue.proofs.Places.{by_key}
use Rattle.dd_catalogue.proofs.Merging.{taken_more, taken_all}
use Rattle.dd_catalogue.proofs.greatest.Greatest.of.Goals as goal

pub loop-value-preserved : goal.loop-value-preserved
loop-value-preserved g c =
    taken_more (by_key g.T.Keyed.key_of g.met.T.Ordered.total g.met.T.Ordered.apart)
    (λ value. value.now) c.deref-value-items.result.now c.loop-value.greatest c.offer.new.self
    c.loop-value.value-index c.value-item.result
    c.loop-value-test.true c.value-item.is c.loop-value.invariant c.in_ok-offer.ensures

pub returns : goal.returns
returns g c =
    let items = c.deref-value-items.ensures.value in
    let sorted = IsPermutation-map (λ value. value.now) c.args.values.items c.sort_by.new.self.items
    c.sort_by.ensures.permutation in
    taken_all (by_key g.T.Keyed.key_of g.met.T.Ordered.total g.met.T.Ordered.apart) (λ value. value.now) (map
    (λ value. value.now) c.args.values.items) c.deref-value-items.result.now c.loop-value.greatest
    c.loop-value.value-index
    (rw items sorted) c.loop-value-test.false c.loop-value.invariant
