-- The limits of a directory.
use Rattle.std.specs.Prelude.{ℕ}

-- the most bytes of the file, and the most records below one parent
pub record Limits : Type 0 where
  pub bytes : ℕ
  pub per_level : ℕ
