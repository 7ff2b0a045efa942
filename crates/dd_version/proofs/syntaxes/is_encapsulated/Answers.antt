use Rattle.std.proofs.Common.{◌∙◌}
use Rattle.dd_version.proofs.KnownSyntaxes.{in_table}
use Rattle.dd_version.proofs.syntaxes.is_encapsulated.Goals as goal

pub returns : goal.returns
returns c = c.contains.ensures.value ∙ in_table c.args.uid.now
