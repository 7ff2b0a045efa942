-- What the next slot has is of no version.
use Rattle.dd_sources.proofs.Settling.{other_next}
use Rattle.dd_sources.proofs.batch.Batch.finish.Goals as goal

pub returns : goal.returns
returns c closed h = c.settle.ensures.settled closed (other_next _ _ _ _ c.requires.0 h)
