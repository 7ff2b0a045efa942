use Rattle.std.proofs.Common.{◌≡◌, map, take}
use Rattle.dd_line.specs.Line.{words_of}
use Rattle.dd_line.proofs.given.values_of.Given as goal

abbrev pub invariant-loop-value : goal.invariant-loop-value
invariant-loop-value l = words_of l.words.items ≡ map (λ v. v.now) (take l.value-index l.values)
