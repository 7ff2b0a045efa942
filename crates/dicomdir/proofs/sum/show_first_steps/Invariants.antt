use Rattle.std.proofs.Common.{◌≡◌}
use Rattle.dicomdir.proofs.sum.show_first_steps.Given as goal

abbrev pub invariant-loop-row : goal.invariant-loop-row
invariant-loop-row g l = g.F.Files.held l.files ≡ g.F.Files.held l.initial.files
