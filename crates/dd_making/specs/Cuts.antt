-- Bytes cut into pieces.
use Rattle.std.specs.Prelude.{◌≤◌, ℕ, List, [], ◌∷◌, length, slice_range}

-- from this place on, up to the first of these ends, from there to the next, and so on
abbrev pub cuts : ℕ → List ℕ → List ℕ → List (List ℕ)
cuts start bytes [] = []
cuts start bytes (end ∷ ends) = slice_range bytes start end ∷ cuts end bytes ends

-- no end is before this place or before the one before it, and none passes the bytes
abbrev pub AreEnds : ℕ → List ℕ → List ℕ → Type 0
AreEnds start bytes [] = Unit {0}
AreEnds start bytes (end ∷ ends) = (start ≤ end) × (end ≤ length bytes) × AreEnds end bytes ends
