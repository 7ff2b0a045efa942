use Rattle.std.proofs.Common.{◌+◌, ◌≤◌, arith, refl}
use Rattle.sha256_lanes.specs.Lanes.{lane, of_eight}
use Rattle.sha256_lanes.proofs.Each.{below_eight}
use Rattle.sha256_lanes.proofs.Runs.{HasRun, HasRun_none, HasRun_next}
use Rattle.sha256_lanes.proofs.eight.digest_in_lanes.Goals as goal

pub run-init : goal.run-init
run-init c = λ j low. HasRun_none _ _ _ (c.start.ensures j low)

pub run-preserved : goal.run-preserved
run-preserved c =
    let i = c.run.i in
    let first = c.args.front.0.now in
    let second = c.args.front.1.now in
    let third = c.args.front.2.now in
    let fourth = c.args.front.3.now in
    let fifth = c.args.back.0.now in
    let sixth = c.args.back.1.now in
    let seventh = c.args.back.2.now in
    let eighth = c.args.back.3.now in
    below_eight (λ j. HasRun (of_eight first second third fourth fifth sixth seventh eighth j) (i + 1)
    (lane j c.compress8.new.hash)
    (of_eight c.end_lane.new.digest c.end_lane-in-run.new.digest c.end_lane-in-run-2.new.digest
    c.end_lane-in-run-3.new.digest c.end_lane-in-run-4.new.digest c.end_lane-in-run-5.new.digest
    c.end_lane-in-run-6.new.digest c.end_lane-in-run-7.new.digest j))
    (HasRun_next first _ _ _ _ _ i c.block_count-a_count.result (c.run.invariant 0 (omega arith))
    c.block_count-a_count.ensures c.block.ensures.block
    (c.compress8.ensures 0 (omega arith)) c.end_lane.ensures.last c.end_lane.ensures.more)
    (HasRun_next second _ _ _ _ _ i c.block_count-b_count.result (c.run.invariant 1 (omega arith))
    c.block_count-b_count.ensures c.block-in-run.ensures.block
    (c.compress8.ensures 1 (omega arith)) c.end_lane-in-run.ensures.last c.end_lane-in-run.ensures.more)
    (HasRun_next third _ _ _ _ _ i c.block_count-c_count.result (c.run.invariant 2 (omega arith))
    c.block_count-c_count.ensures c.block-in-run-2.ensures.block
    (c.compress8.ensures 2 (omega arith)) c.end_lane-in-run-2.ensures.last c.end_lane-in-run-2.ensures.more)
    (HasRun_next fourth _ _ _ _ _ i c.block_count-d_count.result (c.run.invariant 3 (omega arith))
    c.block_count-d_count.ensures c.block-in-run-3.ensures.block
    (c.compress8.ensures 3 (omega arith)) c.end_lane-in-run-3.ensures.last c.end_lane-in-run-3.ensures.more)
    (HasRun_next fifth _ _ _ _ _ i c.block_count-e_count.result (c.run.invariant 4 (omega arith))
    c.block_count-e_count.ensures c.block-in-run-4.ensures.block
    (c.compress8.ensures 4 (omega arith)) c.end_lane-in-run-4.ensures.last c.end_lane-in-run-4.ensures.more)
    (HasRun_next sixth _ _ _ _ _ i c.block_count-f_count.result (c.run.invariant 5 (omega arith))
    c.block_count-f_count.ensures c.block-in-run-5.ensures.block
    (c.compress8.ensures 5 (omega arith)) c.end_lane-in-run-5.ensures.last c.end_lane-in-run-5.ensures.more)
    (HasRun_next seventh _ _ _ _ _ i c.block_count-g_count.result (c.run.invariant 6 (omega arith))
    c.block_count-g_count.ensures c.block-in-run-6.ensures.block
    (c.compress8.ensures 6 (omega arith)) c.end_lane-in-run-6.ensures.last c.end_lane-in-run-6.ensures.more)
    (HasRun_next eighth _ _ _ _ _ i c.block_count-h_count.result (c.run.invariant 7 (omega arith))
    c.block_count-h_count.ensures c.block-in-run-7.ensures.block
    (c.compress8.ensures 7 (omega arith)) c.end_lane-in-run-7.ensures.last c.end_lane-in-run-7.ensures.more)

pub returns : goal.returns
returns c =
    let longest = c.max-longest.result in
    let done : longest ≤ c.run.i = c.run-test.false in
    rw (
      (c.run.invariant 0 (omega arith)).1 (omega (
        arith,
        done,
        c.block_count-a_count.ensures,
        c.most_blocks.ensures.first,
      )),
      (c.run.invariant 1 (omega arith)).1 (omega (
        arith,
        done,
        c.block_count-b_count.ensures,
        c.most_blocks.ensures.second,
      )),
      (c.run.invariant 2 (omega arith)).1 (omega (
        arith,
        done,
        c.block_count-c_count.ensures,
        c.most_blocks.ensures.third,
      )),
      (c.run.invariant 3 (omega arith)).1 (omega (
        arith,
        done,
        c.block_count-d_count.ensures,
        c.most_blocks.ensures.fourth,
      )),
      (c.run.invariant 4 (omega arith)).1 (omega (
        arith,
        done,
        c.block_count-e_count.ensures,
        c.most_blocks-2.ensures.first,
      )),
      (c.run.invariant 5 (omega arith)).1 (omega (
        arith,
        done,
        c.block_count-f_count.ensures,
        c.most_blocks-2.ensures.second,
      )),
      (c.run.invariant 6 (omega arith)).1 (omega (
        arith,
        done,
        c.block_count-g_count.ensures,
        c.most_blocks-2.ensures.third,
      )),
      (c.run.invariant 7 (omega arith)).1 (omega (
        arith,
        done,
        c.block_count-h_count.ensures,
        c.most_blocks-2.ensures.fourth,
      )),
    ) refl
