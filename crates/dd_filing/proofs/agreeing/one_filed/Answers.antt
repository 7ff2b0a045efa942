-- Compared with a planned version, a file is one of the answers only.
use Rattle.dd_filing.proofs.Comparing.{one_filed}
use Rattle.dd_filing.proofs.agreeing.one_filed.Goals as goal

pub returns : goal.returns
returns c = one_filed
