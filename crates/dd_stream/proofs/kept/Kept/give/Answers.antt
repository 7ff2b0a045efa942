-- The bytes that went stood before those that are left.
use Rattle.std.proofs.Common.{◌≡◌, ◌≤◌, ℕ, ◌+◌, ◌-◌, ◌++◌, List, length, take, drop, arith, rules}
use Rattle.std.proofs.Math.Seq.{take-add}
use Rattle.std.proofs.lemmas.Grind.{common_steps}
use Rattle.std.proofs.lemmas.List.{take_at as take_front, length-take-le}
use Rattle.dd_stream.proofs.kept.Kept.give.Goals as goal

went_before : (bytes piece others : List ℕ) (at len n : ℕ) → n ≤ len → length piece ≡ n → piece ≡ take n (drop at bytes)
    → take len (drop at bytes) ≡ take n (piece ++ others) ++ take (len - n) (drop (at + n) bytes)
went_before bytes piece others at len n few whole is =
    let more = take-add n (len - n) (drop at bytes) in
    let all : n + (len - n) ≡ len = omega arith in
    let front = take_front piece others n (omega arith) in
    grind (arith, common_steps)

pub returns-clause-gave : goal.returns-clause-gave
returns-clause-gave c = rw (← c.self.view_is) (went_before c.self.inside.bytes c.copy_from_slice.new.self _
    c.self.inside.at c.self.inside.len c.min-n.result (omega arith)
    (omega (arith, length-take-le c.min-n.result c.args.room.now (omega arith), c.copy_from_slice.ensures.len))
    (search rules))
