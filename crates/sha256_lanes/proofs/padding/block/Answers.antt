use Rattle.std.proofs.Common.{arith}
use Rattle.sha256_lanes.proofs.Blocks.{block_whole, block_first, block_second}
use Rattle.sha256_lanes.proofs.padding.block.Goals as goal

pub returns-then-i-whole-clause-block : goal.returns-then-i-whole-clause-block
returns-then-i-whole-clause-block c = λ _. block_whole c.args.message.now c.args.i (omega arith)

pub returns-then-i-whole-2-clause-block : goal.returns-then-i-whole-2-clause-block
returns-then-i-whole-2-clause-block c =
    λ _. block_first c.args.tail.now c.args.message.now c.args.i c.requires (omega arith)

pub returns-else-i-whole-2-clause-block : goal.returns-else-i-whole-2-clause-block
returns-else-i-whole-2-clause-block c = λ high.
    block_second c.args.tail.now c.args.message.now c.args.i c.requires (omega arith) (omega arith) high
