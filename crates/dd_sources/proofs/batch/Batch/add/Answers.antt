-- One version more is open, or none.
use Rattle.dd_sources.proofs.Settling.{none_open, one_more_open}
use Rattle.dd_sources.proofs.batch.Batch.add.Goals as goal

pub returns-then-is_full-clause-added : goal.returns-then-is_full-clause-added
returns-then-is_full-clause-added c front closed version bytes all kept h =
    let shift = c.shift.ensures in
    let now = one_more_open _ _ front _ closed version bytes all kept h shift.used shift.slots in
    none_open _ _ _ c.settle.ensures.used (c.settle.ensures.settled _ now)

pub returns-else-is_full-clause-added : goal.returns-else-is_full-clause-added
returns-else-is_full-clause-added c front closed version bytes all kept h =
    one_more_open _ _ front _ closed version bytes all kept h c.shift.ensures.used c.shift.ensures.slots
