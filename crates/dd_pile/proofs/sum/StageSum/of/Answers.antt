-- One more source is counted.
use Rattle.std.proofs.Common.{arith, length-take-le}
use Rattle.dd_pile.proofs.Counted.{few_skipped}
use Rattle.dd_pile.proofs.sum.StageSum.of.Goals as goal

pub overflow_add-sum : goal.overflow_add-sum
overflow_add-sum c =
    let few = few_skipped c.args.list.now c.loop-staged.staged-index _ _ _ c.loop-staged-test.true
    c.loop-staged.invariant.counts in
    let most = few.0 in
    let front = length-take-le c.loop-staged.staged-index c.args.list.now in
    let many = c.loop-staged.invariant.sources in
    let fits = c.loop-staged.invariant.few in
    let within = c.loop-staged-test.true in
    omega (arith, most, front, many, fits, within)

pub overflow_add-sum-in-Err : goal.overflow_add-sum-in-Err
overflow_add-sum-in-Err c =
    let few = few_skipped c.args.list.now c.loop-staged.staged-index _ _ _ c.loop-staged-test.true
    c.loop-staged.invariant.counts in
    let most = few.0 in
    let front = length-take-le c.loop-staged.staged-index c.args.list.now in
    let many = c.loop-staged.invariant.sources in
    let fits = c.loop-staged.invariant.few in
    let within = c.loop-staged-test.true in
    omega (arith, most, front, many, fits, within)

pub overflow_add-sum-in-Err-2 : goal.overflow_add-sum-in-Err-2
overflow_add-sum-in-Err-2 c =
    let few = few_skipped c.args.list.now c.loop-staged.staged-index _ _ _ c.loop-staged-test.true
    c.loop-staged.invariant.counts in
    let most = few.1 in
    let front = length-take-le c.loop-staged.staged-index c.args.list.now in
    let many = c.loop-staged.invariant.sources in
    let fits = c.loop-staged.invariant.few in
    let within = c.loop-staged-test.true in
    omega (arith, most, front, many, fits, within)
