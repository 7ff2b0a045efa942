-- Messages side by side: a list of vectors has in lane j a word of message j.
use Rattle.sha2.specs.Sha256.{schedule, word_at}
use Rattle.std.specs.Prelude.{◌≡◌, ◌<◌, ◌*◌, ℕ, List, [], ◌∷◌, slice_index, slice_index_or}

-- lane j of vector k
abbrev pub lane_at : List (List ℕ) → ℕ → ℕ → ℕ
lane_at x k j = slice_index (slice_index_or x k []) j

-- lane j of the first eight vectors: a hash value, or working variables
abbrev pub lane : ℕ → List (List ℕ) → List ℕ
lane j x =
    lane_at x 0 j ∷ lane_at x 1 j ∷ lane_at x 2 j ∷ lane_at x 3 j
    ∷ lane_at x 4 j ∷ lane_at x 5 j ∷ lane_at x 6 j ∷ lane_at x 7 j ∷ []

-- the j-th of four
abbrev pub of_four : List ℕ → List ℕ → List ℕ → List ℕ → ℕ → List ℕ
of_four a b c d j = slice_index_or (a ∷ b ∷ c ∷ d ∷ []) j []

-- the j-th of eight
abbrev pub of_eight : List ℕ → List ℕ → List ℕ → List ℕ → List ℕ → List ℕ → List ℕ → List ℕ → ℕ → List ℕ
of_eight a b c d e f g h j = slice_index_or (a ∷ b ∷ c ∷ d ∷ e ∷ f ∷ g ∷ h ∷ []) j []

-- the first 16 vectors of w have in lane j the words of block b
abbrev pub IsLoaded : List (List ℕ) → ℕ → List ℕ → Type 0
IsLoaded w j b = (t : ℕ) → t < 16 → lane_at w t j ≡ word_at b (4 * t)

-- lane j of w has the message schedule of block b (6.2.2, step 1)
abbrev pub IsScheduled : List (List ℕ) → ℕ → List ℕ → Type 0
IsScheduled w j b = (t : ℕ) → t < 64 → lane_at w t j ≡ slice_index (schedule b 48) t
