use Rattle.std.proofs.Common.{◌∙◌, ap}
use Rattle.dd_catalogue.specs.Changes.{with_changes}
use Rattle.dd_catalogue.proofs.Harmonies.{harmonised_rises}
use Rattle.dd_catalogue.proofs.harmony.changed_copies.Goals as goal

pub from_rising-requires : goal.from_rising-requires
from_rising-requires c =
    rw (c.write.ensures ∙ ap (with_changes c.args.changes) c.in_ok-held.ensures.equal ∙ c.requires.changes)
    (harmonised_rises c.args.versions.now c.requires.rising)
