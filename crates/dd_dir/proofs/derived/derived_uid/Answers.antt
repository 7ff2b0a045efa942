use Rattle.std.proofs.Common.{◌∙◌}
use Rattle.dd_catalogue.specs.Harmony.{harmonised}
use Rattle.dd_dir.proofs.Deriving.{uid_is_derived}
use Rattle.dd_dir.proofs.derived.derived_uid.Goals as goal

pub returns-clause-uid : goal.returns-clause-uid
returns-clause-uid c =
    c.uid_of.ensures
    ∙ uid_is_derived c.args.id.now (harmonised c.args.catalogue.now.versions) c.args.catalogue.now.withdrawn
    c.unnamed_label.result c.in_ok-plan.plan c.in_ok-plan.ensures.planned c.unnamed_label.ensures
