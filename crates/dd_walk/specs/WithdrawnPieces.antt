-- The pieces of the value that names the withdrawn SOP Instance UIDs (PS3.3 section C.12.1) of a directory.
use Rattle.std.specs.Prelude.{ℕ, ◌==◌, List, [], Option, Some, None}
use Rattle.std.specs.List.{slice_split}
use Rattle.dd_walk.specs.Trees.{Walk}

-- the pieces between `\` (92) of a value (PS3.5 section 6.4): one empty piece where it has no bytes
abbrev pub pieces_of : List ℕ → List (List ℕ)
pieces_of value = slice_split (λ byte. byte == 92) value

-- the pieces of the value; no pieces where the directory has none
abbrev pub pieces_in : Option (List ℕ) → List (List ℕ)
pieces_in None = []
pieces_in (Some value) = pieces_of value

abbrev pub withdrawn_of : Walk → List (List ℕ)
withdrawn_of walk = pieces_in walk.beside.withdrawn
