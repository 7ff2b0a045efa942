use Rattle.std.proofs.Common.{◌≡◌, take, map}
use Rattle.dd_catalogue.proofs.best.copies_of_references.Given as goal

abbrev pub invariant-loop-value : goal.invariant-loop-value
invariant-loop-value g l = l.copies.items ≡ map (λ value. value.now) (take l.value-index l.values)
