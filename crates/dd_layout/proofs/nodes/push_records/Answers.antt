use Rattle.std.proofs.Common.{◌∙◌, ap, ◌∷◌, ◌++◌, map}
use Rattle.dd_layout.specs.WalkedRecords.{standing}
use Rattle.dd_layout.proofs.InOrder.{levels_walked}
use Rattle.dd_layout.proofs.nodes.push_records.Goals as goal

pub returns : goal.returns
returns c =
    c.loop-level.invariant ∙ ap (λ l. c.args.records.now.items ++ l)
    (levels_walked (standing c.args.first.now ∷ map standing c.args.later.now) c.args.first.now.version.now
    c.args.shared c.loop-level.level-index c.requires c.loop-level-test.false)
