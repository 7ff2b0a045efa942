use Rattle.std.proofs.Common.{[]}
use Rattle.dd_sources.proofs.Answering.{holds_next}
use Rattle.dd_sources.proofs.readings.Readings.pass.Goals as goal

pub returns-clause-kept : goal.returns-clause-kept
returns-clause-kept c answers many h =
    c.in_ok-keep.ensures.kept answers [] many c.clear.ensures (holds_next _ _ _ _ c.requires.0 h)
