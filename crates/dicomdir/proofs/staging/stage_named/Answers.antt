-- Without a folder the sources are looked up as they are named.
use Rattle.std.proofs.Common.{[]}
use Rattle.dd_line.specs.Line.{words_of}
use Rattle.dicomdir.proofs.StagedSources.{all_here}
use Rattle.dicomdir.proofs.staging.stage_named.Goals as goal

pub returns-in-None-clause-made : goal.returns-in-None-clause-made
returns-in-None-clause-made g c = λ names have none.
    rw c.in-None.is (rw c.as_str.ensures.value at c.stage_at.ensures.made [] names
    (all_here (words_of c.args.sources.names.now)) have none)

pub returns-in-None-clause-large : goal.returns-in-None-clause-large
returns-in-None-clause-large g c = λ names have.
    rw c.in-None.is (rw c.as_str.ensures.value at c.stage_at.ensures.large [] names
    (all_here (words_of c.args.sources.names.now)) have)
