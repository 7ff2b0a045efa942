use Rattle.std.proofs.Common.{ap}
use Rattle.dd_set.specs.Single.{element_text}
use Rattle.dd_stream.proofs.Going.{sends_same}
use Rattle.dd_staged.proofs.digests.send_digest.Goals as goal

pub returns : goal.returns
returns g c = sends_same _ _ _ _ _ _ _ _ (ap element_text c.digest_cell.ensures.exact) c.send_cell.ensures
