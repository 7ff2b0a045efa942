-- What was read of a file ahead of its copy.
use Rattle.std.specs.Prelude.{ℕ, Bool, List}

-- these bytes, and whether the reader then came to its end
pub record Taken : Type 0 where
  pub bytes : List ℕ
  pub whole : Bool
