-- The pile is of the names of the sources at these paths.
use Rattle.std.proofs.Common.{◌∙◌}
use Rattle.dd_line.specs.Line.{words_of}
use Rattle.dicomdir.proofs.StagedSources.{makes_named}
use Rattle.dicomdir.proofs.staging.stage_at.Goals as goal

pub returns-clause-made : goal.returns-clause-made
returns-clause-made g c = λ from names looked have none.
    let staged = c.in_ok-staged.ensures in
    makes_named c.stage_sources.result c.args.pile.keeps_going from c.args.pile.path.now names
    (words_of c.args.sources.names.now) c.args.sources.bad_names.now c.in_ok-staged.staged.items _ _ have staged.names
    (staged.paths ∙ looked) staged.bad none (rw c.deref.ensures.value at c.stage_sources.ensures.made)
    (rw c.deref.ensures.value at c.stage_sources.ensures.all)
