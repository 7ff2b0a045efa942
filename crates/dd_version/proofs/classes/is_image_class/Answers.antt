use Rattle.std.proofs.Common.{◌∙◌}
use Rattle.dd_version.proofs.ImageClasses.{in_table, is_image_class_decides}
use Rattle.dd_version.proofs.Listed.{decides_as}
use Rattle.dd_version.proofs.classes.is_image_class.Goals as goal

pub returns-clause-test : goal.returns-clause-test
returns-clause-test c = rw c.as_bytes.ensures.value at c.is_listed.ensures ∙ in_table c.args.class.now

pub returns-clause-form : goal.returns-clause-form
returns-clause-form c = decides_as _ _ (is_image_class_decides c.args.class.now) (returns-clause-test c)
