-- Each source is counted once.
use Rattle.std.proofs.Common.{length, rules}
use Rattle.dicomdir.proofs.AddingUp.{index_adds_up}
use Rattle.dicomdir.proofs.sum.Sum.of.Goals as goal

pub returns-clause-counts : goal.returns-clause-counts
returns-clause-counts c = search rules

pub returns-clause-adds : goal.returns-clause-adds
returns-clause-adds c = λ choice limits answers all notes.
    index_adds_up choice limits answers c.args.past.now.noted (length c.args.sources.now) _ all notes (returns-clause-counts c)
