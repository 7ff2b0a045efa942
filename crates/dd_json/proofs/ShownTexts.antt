-- The escaped text of bytes as they print, byte by byte.
use Rattle.std.proofs.Common.{◌≡◌, ℕ, List, [], ◌∷◌, ◌++◌, ◌∙◌, refl, ap}
use Rattle.std.proofs.lemmas.List.{map-append}
use Rattle.std.proofs.lemmas.Grind.{flat_map-append}
use Rattle.std.specs.Borrow.{Bor}
use Rattle.std.specs.List.{concat, flat_map}
use Rattle.json.specs.Print.{escape, escape_byte}
use Rattle.dd_lines.specs.Telling.{parts_of, shown, shown_byte}

abbrev pub shown_escape : ℕ → List ℕ
shown_escape byte = escape_byte (shown_byte byte)

pub shown_each : (text : List ℕ) → escape (shown text) ≡ flat_map shown_escape text
shown_each [] = refl
shown_each (byte ∷ text) = ap (λ (xs : List ℕ). shown_escape byte ++ xs) (shown_each text)

-- part by part
abbrev pub part_escape : Bor (List ℕ) → List ℕ
part_escape part = escape (shown part.now)

pub parts_each : (parts : List (Bor (List ℕ))) → escape (shown (concat (parts_of parts))) ≡ flat_map part_escape parts
parts_each [] = refl
parts_each (part ∷ parts) =
    ap escape (map-append shown_byte part.now (concat (parts_of parts)))
    ∙ flat_map-append escape_byte (shown part.now) (shown (concat (parts_of parts)))
    ∙ ap (λ (xs : List ℕ). part_escape part ++ xs) (parts_each parts)
