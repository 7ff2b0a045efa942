-- The transfer syntaxes of the files that are taken (PS3.5 section 10 and annex A).
use Rattle.std.specs.Prelude.{ℕ, Bool, List, [], ◌∷◌, codes}
use Rattle.std.specs.List.{list_any}
use Rattle.std.specs.Str.{bytes_eq}

-- Implicit VR Little Endian
abbrev pub implicit_syntax : List ℕ
implicit_syntax = codes "1.2.840.10008.1.2"

-- Explicit VR Little Endian
abbrev pub explicit_syntax : List ℕ
explicit_syntax = codes "1.2.840.10008.1.2.1"

-- those with encapsulated pixel data: RLE Lossless; JPEG Baseline, Extended and Lossless; JPEG-LS Lossless and
-- Near-Lossless; JPEG 2000 Lossless Only and JPEG 2000
abbrev pub encapsulated_syntaxes : List (List ℕ)
encapsulated_syntaxes = codes "1.2.840.10008.1.2.5" ∷ codes "1.2.840.10008.1.2.4.50" ∷ codes "1.2.840.10008.1.2.4.51" ∷
    codes "1.2.840.10008.1.2.4.70" ∷ codes "1.2.840.10008.1.2.4.80" ∷ codes "1.2.840.10008.1.2.4.81" ∷
    codes "1.2.840.10008.1.2.4.90" ∷ codes "1.2.840.10008.1.2.4.91" ∷ []

-- all of them
abbrev pub known_syntaxes : List (List ℕ)
known_syntaxes = implicit_syntax ∷ explicit_syntax ∷ encapsulated_syntaxes

-- is it one of them?
unfoldable pub is_known_syntax : List ℕ → Bool
is_known_syntax uid = list_any (bytes_eq uid) known_syntaxes
