-- File IDs of four ranks and their text (PS3.10 section 8.2).
use Rattle.std.specs.Prelude.{◌≤◌, ◌-◌, ℕ, List, [], ◌∷◌, ◌++◌, length, replicate, codes, decimal}
use Rattle.std.specs.List.{join_with_byte}

-- the highest rank that six decimal digits have room for
abbrev pub max_rank : ℕ
max_rank = 999999

-- a rank among the children of one parent
abbrev pub IsRank : ℕ → Type 0
IsRank rank = (1 ≤ rank) × (rank ≤ max_rank)

-- the ranks of an image and of what is above it
pub record Ranks : Type 0 where
  pub patient : ℕ
  pub study : ℕ
  pub series : ℕ
  pub image : ℕ

-- these four numbers, as ranks
abbrev pub ranks_of : (patient study series image : ℕ) → Ranks
ranks_of patient study series image = record { patient = patient; study = study; series = series; image = image }

-- each of the four is a rank
pub record AreRanks (ranks : Ranks) : Type 0 where
  pub patient : IsRank ranks.patient
  pub study : IsRank ranks.study
  pub series : IsRank ranks.series
  pub image : IsRank ranks.image

-- six decimal digits: the decimal text with `0` (48) before it, up to six
abbrev pub six_digits : ℕ → List ℕ
six_digits rank = replicate (6 - length (decimal rank)) 48 ++ decimal rank

-- the text of a File ID: four components joined by `\` (92)
unfoldable pub text_of : Ranks → List ℕ
text_of ranks = join_with_byte 92 (
    (codes "PT" ++ six_digits ranks.patient) ∷
    (codes "ST" ++ six_digits ranks.study) ∷
    (codes "SE" ++ six_digits ranks.series) ∷
    (codes "IM" ++ six_digits ranks.image) ∷ [])
