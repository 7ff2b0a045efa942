use Rattle.std.proofs.Common.{◌≡◌, length}
use Rattle.dicomdir.proofs.index.counts_of.Given as goal

abbrev pub invariant-loop : goal.invariant-loop
invariant-loop l = length l.counts.items ≡ l.counter
