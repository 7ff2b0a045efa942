use Rattle.std.proofs.Common.{arith}
use Rattle.dd_encoding.proofs.Heads.{length_head}
use Rattle.dd_encoding.proofs.head.head_size.Goals as goal

pub returns-clause-exact : goal.returns-clause-exact
returns-clause-exact c = omega (arith, length_head c.args.meta.now)
