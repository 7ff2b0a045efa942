-- Lists of bytes.
use Rattle.std.specs.Prelude.{ℕ, ◌<◌, List, slice_index}

-- every number of the list is a byte
abbrev pub AreBytes : List ℕ → Type 0
AreBytes bs = (i : ℕ) → slice_index bs i < 256
