-- The front of a longer value has as many bytes as are compared.
use Rattle.std.proofs.Common.{arith, sym}
use Rattle.std.proofs.lemmas.List.{length-take-le}
use Rattle.dd_calls.proofs.agreements.front.Goals as goal

pub slice_bounds-result-end : goal.slice_bounds-result-end
slice_bounds-result-end c = sym (length-take-le 1024 c.args.value.now (omega (arith, c.if-value-gt-COMPARED.true)))
