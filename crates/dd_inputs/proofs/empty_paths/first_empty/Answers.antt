-- No path before a place is empty.
use Rattle.std.proofs.Common.{◌≡◌, ◌∙◌, ◌==◌, ℕ, List, [], true, ap, arith, below_more, length, string_bytes}
use Rattle.dd_inputs.proofs.empty_paths.first_empty.Goals as goal

pub loop-at-preserved : goal.loop-at-preserved
loop-at-preserved c = below_more _ _ c.loop-at.invariant (λ is.
    let path = c.index-paths-at.result in
    let none : string_bytes path ≡ [] = ap string_bytes c.index-paths-at.is ∙ is.empty path in
    let yes : (length (string_bytes path) == 0) ≡ true = ap (λ (bytes : List ℕ). length bytes == 0) none in
    cc)

pub returns-clause-none : goal.returns-clause-none
returns-clause-none c = λ _ at is. c.loop-at.invariant at (omega (arith, is.within)) is
