use Rattle.dd_version.proofs.KnownSyntaxes.{is_known_syntax_decides}
use Rattle.dd_version.proofs.Listed.{decides_as}
use Rattle.dd_version.proofs.syntaxes.is_known_syntax.Goals as goal

pub returns-clause-test : goal.returns-clause-test
returns-clause-test c = rw c.as_bytes.ensures.value at c.is_known.ensures

pub returns-clause-form : goal.returns-clause-form
returns-clause-form c = decides_as _ _ (is_known_syntax_decides c.args.transfer.now) (returns-clause-test c)
