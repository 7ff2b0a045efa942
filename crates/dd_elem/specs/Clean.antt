-- A value without its padding: the longest prefix that ends in no padding byte (PS3.5 section 6.2).
use Rattle.std.specs.Prelude.{◌≡◌, ◌≢◌, ◌≤◌, ℕ, Bool, ◌||◌, ◌==◌, if◌then◌else◌, List, [], ◌∷◌, ◌++◌, length}

-- a padding byte: NUL or space
abbrev pub is_padding : ℕ → Bool
is_padding byte = (byte == 0) || (byte == 32)

-- the bytes do not end in a padding byte; no bytes do not
abbrev pub EndsUnpadded : List ℕ → Type 0
EndsUnpadded bytes = (front : List ℕ) (last : ℕ) → bytes ≡ front ++ last ∷ [] → (last ≢ 0) × (last ≢ 32)

-- what is kept is the longest prefix of the bytes that ends in no padding byte
pub record IsCleanOf (bytes kept : List ℕ) : Type 0 where
  pub prefix : (rest : List ℕ) × (bytes ≡ kept ++ rest)
  pub unpadded : EndsUnpadded kept
  pub longest : (other rest : List ℕ) → bytes ≡ other ++ rest → EndsUnpadded other → length other ≤ length kept

-- a byte before what is kept of the bytes after it: where nothing is, a padding byte goes too
abbrev pub keep : ℕ → List ℕ → List ℕ
keep byte [] = if is_padding byte then [] else byte ∷ []
keep byte (next ∷ more) = byte ∷ next ∷ more

-- what is left of the bytes without their padding
abbrev pub clean_of : List ℕ → List ℕ
clean_of [] = []
clean_of (byte ∷ bytes) = keep byte (clean_of bytes)
