-- What is said of a feed, whose bytes come one after the other. `moves` says which bytes were taken between two of its
-- states. `tells` says which bytes may be all that are still to come.
use Rattle.std.specs.Prelude.{◌≡◌, ℕ, List, [], ◌++◌}

-- nothing is to come
pub record IsOver {F : Type 0} (tells : F → List ℕ → Type 0) (feed : F) : Type 0 where
  pub none : (rest : List ℕ) → tells feed rest → rest ≡ []

-- Between two states of a feed some bytes were taken. Whatever may still come after them, what was answered is right:
-- `answers bytes rest` says so where `bytes` were to come at first and `rest` is to come now.
pub record Scans {F : Type 0} (moves : F → F → List ℕ → Type 0) (tells : F → List ℕ → Type 0) (old new : F)
    (answers : List ℕ → List ℕ → Type 0) : Type 0 where
  pub taken : List ℕ
  pub moved : moves old new taken
  pub gives : (rest : List ℕ) → tells new rest → answers (taken ++ rest) rest
