use Rattle.std.proofs.Common.{◌≤◌, length, arith}
use Rattle.dd_staged.proofs.Sound.{sound_all, sound_more}
use Rattle.dd_staged.proofs.type_facts.list_is_valid.Goals as goal

pub loop-staged-preserved : goal.loop-staged-preserved
loop-staged-preserved c =
    sound_more c.args.list.now c.loop-staged.staged-index c.staged-item.result c.loop-staged-test.true
    c.staged-item.is c.staged_is_valid.ensures c.loop-staged.invariant

pub returns : goal.returns
returns c =
    let past : length c.args.list.now ≤ c.loop-staged.staged-index = omega arith in
    sound_all c.args.list.now c.loop-staged.staged-index past c.loop-staged.invariant
