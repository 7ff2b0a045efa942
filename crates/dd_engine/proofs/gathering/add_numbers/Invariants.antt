use Rattle.std.proofs.Common.{◌≡◌, ◌++◌, map, take}
use Rattle.dd_engine.proofs.gathering.add_numbers.Given as goal

abbrev pub invariant-loop-uid : goal.invariant-loop-uid
invariant-loop-uid l = l.to.items ≡ l.fn.to.items ++ map (λ _. l.number) (take l._uid-index l.uids)
