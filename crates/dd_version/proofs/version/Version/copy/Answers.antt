use Rattle.std.proofs.Common.{refl, sym}
use Rattle.dd_version.proofs.version.Version.copy.Goals as goal

pub returns-in_err-parts-clause-memory : goal.returns-in_err-parts-clause-memory
returns-in_err-parts-clause-memory c = λ _. rw (sym c.self.view_is) (c.in_err-parts.ensures.memory refl)
