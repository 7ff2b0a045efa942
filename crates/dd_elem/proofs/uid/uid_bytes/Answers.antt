use Rattle.std.proofs.Common.{arith}
use Rattle.dd_elem.proofs.DigestUids.{number_after}
use Rattle.dd_elem.proofs.uid.uid_bytes.Goals as goal

pub returns : goal.returns
returns c = number_after _ _ _ _ c.fill-bytes.ensures c.copy_from_slice.ensures.after (omega arith)
