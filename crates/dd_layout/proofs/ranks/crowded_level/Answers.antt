use Rattle.std.proofs.Common.{arith, map, ◌∙◌}
use Rattle.dd_layout.specs.Stages.{level_in}
use Rattle.dd_layout.proofs.Ranked.{noted_all, pass_crowded}
use Rattle.dd_layout.proofs.ranks.crowded_level.Goals as goal

pub returns : goal.returns
returns c = λ versions is.
    noted_all _ c.loop-record.record-index _ _ _ c.args.records.now (omega arith) c.loop-record.invariant.noted
    ∙ pass_crowded c.args.most versions (map level_in c.args.records.now) is
