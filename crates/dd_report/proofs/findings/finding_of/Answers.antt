-- The reader that came in is the one that is left.
use Rattle.std.proofs.Common.{refl}
use Rattle.dd_report.proofs.findings.finding_of.Goals as goal

pub returns-clause-named : goal.returns-clause-named
returns-clause-named g c = rw c.in-Some.is (λ names is. c.finding_by.ensures)

pub returns-then-is_none-clause-unread : goal.returns-then-is_none-clause-unread
returns-then-is_none-clause-unread g c = rw c.in-Some.is (λ none. refl)
