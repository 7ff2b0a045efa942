-- Each version gets its digest, and then none is open.
use Rattle.std.proofs.Common.{length-set, ◌∙◌, arith}
use Rattle.dd_sources.proofs.Settling.{one_more_of, settled}
use Rattle.dd_sources.proofs.batch.Batch.settle.Goals as goal

pub index_mut-requires : goal.index_mut-requires
index_mut-requires c =
    let there = c.requires.there in
    let same = c.loop-at.invariant.same in
    let below = c.loop-at-test.true in
    let all = c.len.ensures in
    omega (arith, there, same, below, all)

pub loop-at-preserved : goal.loop-at-preserved
loop-at-preserved c =
    let there = c.requires.there in
    let few = c.requires.few in
    let below = c.loop-at-test.true in
    let all = c.len.ensures in
    record {
      same = length-set _ _ _ ∙ c.loop-at.invariant.same;
      digests = one_more_of _ _ _ _ _ _ _ _ c.loop-at.invariant.digests c.index_mut.ensures.value
          c.set_digest.ensures (omega (arith, there, below, all)) (omega (arith, few, below));
    }

pub returns-clause-settled : goal.returns-clause-settled
returns-clause-settled c closed h =
    let d = c.digest_slots.ensures in
    let all = c.len.ensures in
    let end = c.loop-at.auto.at-end in
    let over = c.loop-at-test.false in
    settled h.front _ _ closed _ _ h.pending _ _ _
    (d.first, (d.second, (d.third, (d.fourth, (d.fifth, (d.sixth, (d.seventh, (d.eighth, tt)))))))) h.many h.slots h.all
    h.done (omega (arith, all)) (omega (arith, end, over)) c.loop-at.invariant.digests
