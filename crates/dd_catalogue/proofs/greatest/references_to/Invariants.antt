use Rattle.std.proofs.Common.{◌≡◌, take, map}
use Rattle.dd_catalogue.proofs.greatest.references_to.Given as goal

abbrev pub invariant-loop-value : goal.invariant-loop-value
invariant-loop-value g l = map (λ value. value.now) l.references.items ≡ take l.value-index l.values
