-- The texts so far were put.
use Rattle.std.proofs.Common.{List, ℕ, map, take}
use Rattle.std.specs.Borrow.{Bor}
use Rattle.dd_calls.specs.Texts.{AreTexts}
use Rattle.dd_calls.proofs.texts.Texts.of.Given as goal

abbrev pub invariant-loop-text : goal.invariant-loop-text
invariant-loop-text l = AreTexts (map (λ (text : Bor (List ℕ)). text.now) (take l.text-index l.texts)) l.joined
