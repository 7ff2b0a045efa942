-- The file of one pick more is put.
use Rattle.dd_making.proofs.PutPicks.{put_more}
use Rattle.dd_making.proofs.made.files_of.Goals as goal

pub loop-pick-preserved : goal.loop-pick-preserved
loop-pick-preserved c =
    put_more c.args.picks.now c.loop-pick.pick-index _ c.loop-pick.sets.items _ _ _ c.loop-pick-test.true
    c.in_ok-push.ensures.items c.in_ok-put.ensures c.loop-pick.invariant
