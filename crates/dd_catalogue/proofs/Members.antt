-- The members of a list, by recursion.
use Rattle.std.specs.Prelude.{◌≡◌, ◌⊎◌, List, [], ◌∷◌, Contains}
use Rattle.std.proofs.Common.{inl, inr, arith, zero, suc}

-- the member of a list, by recursion
abbrev pub Member : {V : Type 0} → V → List V → Type 0
Member v [] = ⊥
Member v (w ∷ s) = (w ≡ v) ⊎ Member v s

pub member_of : {V : Type 0} (v : V) (s : List V) → Contains s v → Member v s
member_of v [] (k, below, is) = absurd (omega arith)
member_of v (w ∷ s) (zero, below, is) = inl is
member_of v (w ∷ s) (suc k, below, is) = inr (member_of v s (k, omega arith, is))

pub contained : {V : Type 0} (v : V) (s : List V) → Member v s → Contains s v
contained v [] h = absurd h
contained v (w ∷ s) (inl e) = (zero, omega arith, e)
contained v (w ∷ s) (inr h) = let there = contained v s h in (suc there.0, omega arith, there.2)
