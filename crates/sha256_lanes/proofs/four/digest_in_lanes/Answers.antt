use Rattle.std.proofs.Common.{◌+◌, ◌≤◌, arith, refl}
use Rattle.sha256_lanes.specs.Lanes.{lane, of_four}
use Rattle.sha256_lanes.proofs.Each.{below_four}
use Rattle.sha256_lanes.proofs.Runs.{HasRun, HasRun_none, HasRun_next}
use Rattle.sha256_lanes.proofs.four.digest_in_lanes.Goals as goal

pub run-init : goal.run-init
run-init c = λ j low. HasRun_none _ _ _ (c.start.ensures j low)

pub run-preserved : goal.run-preserved
run-preserved c =
    let i = c.run.i in
    let first = c.args.a.now in
    let second = c.args.b.now in
    let third = c.args.c.now in
    let fourth = c.args.d.now in
    below_four (λ j. HasRun (of_four first second third fourth j) (i + 1) (lane j c.compress4.new.hash)
    (of_four c.end_lane.new.digest c.end_lane-in-run.new.digest c.end_lane-in-run-2.new.digest
    c.end_lane-in-run-3.new.digest j))
    (HasRun_next first _ _ _ _ _ i c.block_count-a_count.result (c.run.invariant 0 (omega arith))
    c.block_count-a_count.ensures c.block.ensures.block
    (c.compress4.ensures 0 (omega arith)) c.end_lane.ensures.last c.end_lane.ensures.more)
    (HasRun_next second _ _ _ _ _ i c.block_count-b_count.result (c.run.invariant 1 (omega arith))
    c.block_count-b_count.ensures c.block-in-run.ensures.block
    (c.compress4.ensures 1 (omega arith)) c.end_lane-in-run.ensures.last c.end_lane-in-run.ensures.more)
    (HasRun_next third _ _ _ _ _ i c.block_count-c_count.result (c.run.invariant 2 (omega arith))
    c.block_count-c_count.ensures c.block-in-run-2.ensures.block
    (c.compress4.ensures 2 (omega arith)) c.end_lane-in-run-2.ensures.last c.end_lane-in-run-2.ensures.more)
    (HasRun_next fourth _ _ _ _ _ i c.block_count-d_count.result (c.run.invariant 3 (omega arith))
    c.block_count-d_count.ensures c.block-in-run-3.ensures.block
    (c.compress4.ensures 3 (omega arith)) c.end_lane-in-run-3.ensures.last c.end_lane-in-run-3.ensures.more)

pub returns : goal.returns
returns c =
    let longest = c.max-longest.result in
    let done : longest ≤ c.run.i = c.run-test.false in
    rw (
      (c.run.invariant 0 (omega arith)).1 (omega (arith, done, c.block_count-a_count.ensures)),
      (c.run.invariant 1 (omega arith)).1 (omega (arith, done, c.block_count-b_count.ensures)),
      (c.run.invariant 2 (omega arith)).1 (omega (arith, done, c.block_count-c_count.ensures)),
      (c.run.invariant 3 (omega arith)).1 (omega (arith, done, c.block_count-d_count.ensures)),
    ) refl
