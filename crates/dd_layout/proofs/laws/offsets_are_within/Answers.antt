use Rattle.dd_layout.proofs.OffsetsWithin.{named_within, records_within}
use Rattle.dd_layout.proofs.laws.offsets_are_within.Goals as goal

pub returns-clause-named : goal.returns-clause-named
returns-clause-named c = named_within

pub returns-clause-records : goal.returns-clause-records
returns-clause-records c = records_within
