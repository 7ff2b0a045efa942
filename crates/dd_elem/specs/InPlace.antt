-- Values of bounded length that are kept in an array, with zeros after them.
use Rattle.std.specs.Prelude.{◌≡◌, ◌-◌, ℕ, List, ◌++◌, length, take, replicate}
use Rattle.std.proofs.Common.{ap, ◌∙◌}

-- the bytes, and zeros after them, `size` in all
abbrev pub filled : ℕ → List ℕ → List ℕ
filled size bytes = bytes ++ replicate (size - length bytes) 0

-- the array holds `len` bytes, and then zeros
pub record IsFilled (size : ℕ) (array : List ℕ) (len : ℕ) : Type 0 where
  pub within : length (take len array) ≡ len
  pub zeros : filled size (take len array) ≡ array

-- the array and the length are known from the bytes that they hold
pub fields_back : {R : Type 0} (size : ℕ) (array : List ℕ) (len : ℕ) (make : List ℕ → ℕ → R) → IsFilled size array len
    → make (filled size (take len array)) (length (take len array)) ≡ make array len
fields_back size array len make held =
    ap (λ (a : List ℕ). make a (length (take len array))) held.zeros ∙ ap (make array) held.within
