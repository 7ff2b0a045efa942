-- The names under which systems show a file of a disc (PS3.12, ISO 9660).
use Rattle.std.specs.Prelude.{ℕ, List, [], ◌∷◌, ◌++◌, codes, map, if◌then◌else◌}
use Rattle.std.specs.Char.{to_ascii_lowercase}
use Rattle.dd_spelling.specs.declared.spelling.Spelling.{Spelling}

-- a name in small letters
abbrev pub in_small_letters : List ℕ → List ℕ
in_small_letters name = map to_ascii_lowercase name

-- A recorded name as systems show it, in the order in which it is looked for: as recorded and in small letters. Then
-- each with what stands after a name on the disc: dot and version number, or one of these.
abbrev pub shown : List ℕ → List (List ℕ)
shown name = let low : List ℕ = in_small_letters name in
    name ∷ low ∷ (name ++ codes ".;1") ∷ (name ++ codes ";1") ∷ (name ++ codes ".")
    ∷ (low ++ codes ".;1") ∷ (low ++ codes ";1") ∷ (low ++ codes ".") ∷ []

-- a name in one of these spellings
abbrev pub spelled : Spelling → List ℕ → List ℕ
spelled spelling name = (if spelling.is_small then in_small_letters name else name) ++ spelling.ending.now
