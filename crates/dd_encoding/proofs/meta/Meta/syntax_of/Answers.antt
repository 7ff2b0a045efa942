use Rattle.dd_encoding.proofs.KnownSyntaxes.{syntax_decides}
use Rattle.dd_encoding.proofs.meta.Meta.syntax_of.Goals as goal

pub returns-clause-value : goal.returns-clause-value
returns-clause-value c = rw c.as_bytes.ensures.value at c.syntax_of.ensures

pub returns-clause-known : goal.returns-clause-known
returns-clause-known c = rw (returns-clause-value c) (syntax_decides c.args.transfer.now)
