-- Each image is counted once.
use Rattle.std.proofs.Common.{rules}
use Rattle.dicomdir.proofs.AddingUp.{merge_adds_up}
use Rattle.dicomdir.proofs.set_sum.SetSum.of.Goals as goal

pub returns-clause-counts : goal.returns-clause-counts
returns-clause-counts c = search rules

pub returns-clause-adds : goal.returns-clause-adds
returns-clause-adds c = λ choice limits given listings notes.
    merge_adds_up choice limits given listings c.args.noted.now c.args.sets _ notes (returns-clause-counts c)
