-- No version before a place is filed as the planned one.
use Rattle.std.specs.Prelude.{ℕ, ◌<◌}
use Rattle.dd_engine.specs.Saying.{IsFiledAt}
use Rattle.dd_engine.proofs.saying.first_filed.Given as goal

abbrev pub invariant-loop-at : goal.invariant-loop-at
invariant-loop-at l = (before : ℕ) → before < l.at → ¬ IsFiledAt l.planned l.versions before
