-- One text more was put.
use Rattle.dd_calls.proofs.Growing.{one_text_more}
use Rattle.dd_calls.proofs.texts.Texts.of.Goals as goal

pub loop-text-preserved : goal.loop-text-preserved
loop-text-preserved c =
    one_text_more c.args.texts.now c.loop-text.text-index _ _ _ c.loop-text-test.true c.loop-text.invariant
    c.in_ok-put.ensures
