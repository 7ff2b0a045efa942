use Rattle.std.specs.Prelude.{ℕ, ◌<◌}
use Rattle.dd_inputs.specs.EmptyPaths.{IsEmptyAt}
use Rattle.dd_inputs.proofs.empty_paths.first_empty.Given as goal

abbrev pub invariant-loop-at : goal.invariant-loop-at
invariant-loop-at l = (before : ℕ) → before < l.at → ¬ IsEmptyAt l.paths before
