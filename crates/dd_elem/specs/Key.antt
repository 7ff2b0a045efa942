-- The values by which files are distinguished and put in order, without their padding.
use Rattle.std.specs.Prelude.{◌≡◌, ◌≤◌, ℕ, List, length}
use Rattle.dd_elem.specs.Clean.{clean_of}

-- the most bytes that a key may have
abbrev pub max_key_length : ℕ
max_key_length = 1024

-- a key: at most 1,024 bytes, of which cleaning leaves all
pub record IsKey (bytes : List ℕ) : Type 0 where
  pub clean : clean_of bytes ≡ bytes
  pub short : length bytes ≤ max_key_length
