-- The escaped text of texts in a row, text by text.
use Rattle.std.proofs.Common.{◌≡◌, ℕ, List, [], ◌∷◌, ◌++◌, ◌∙◌, refl, ap}
use Rattle.std.proofs.lemmas.Grind.{flat_map-append}
use Rattle.std.specs.Borrow.{Bor}
use Rattle.std.specs.List.{flat_map}
use Rattle.json.specs.Print.{escape, escape_byte}
use Rattle.dd_lines.specs.Text.{joined}

abbrev pub text_escape : Bor (List ℕ) → List ℕ
text_escape text = escape text.now

pub texts_each : (texts : List (Bor (List ℕ))) → escape (joined texts) ≡ flat_map text_escape texts
texts_each [] = refl
texts_each (text ∷ texts) =
    flat_map-append escape_byte text.now (joined texts)
    ∙ ap (λ (xs : List ℕ). text_escape text ++ xs) (texts_each texts)
