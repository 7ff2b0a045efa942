-- A text as it is shown has no control character.
use Rattle.std.proofs.Common.{◌≡◌, ◌∙◌, ◌&&◌, ℕ, Bool, true, false, List, [], ◌∷◌, ap, ap₂, map, refl, subst, sym}
use Rattle.std.proofs.lemmas.Bool.{and_parts}
use Rattle.std.proofs.lemmas.Str.{chars-encodes, scalars-chars}
use Rattle.std.specs.Char.{IsScalar, is_control}
use Rattle.std.specs.List.{list_any}
use Rattle.std.specs.Str.{IsUtf8, all_scalars, chars}
use Rattle.dd_lines.specs.Text.{masked, masked_char}
use Rattle.dd_refusals.specs.MaskedWords.{has_control}

char_shown : (c : ℕ) → IsScalar c → IsScalar (masked_char c)
char_shown c is = go (is_control c) refl
  where
    go : (t : Bool) → is_control c ≡ t → IsScalar (masked_char c)
    go true t =
        let mark : masked_char c ≡ 63 = rw t refl in
        subst IsScalar (sym mark) refl
    go false t =
        let same : masked_char c ≡ c = rw t refl in
        subst IsScalar (sym same) is

all_shown : (cs : List ℕ) → all_scalars cs ≡ true → all_scalars (map masked_char cs) ≡ true
all_shown [] are = refl
all_shown (c ∷ cs) are =
    let parts = and_parts _ (all_scalars cs) are in
    ap₂ ◌&&◌ (char_shown c parts.0) (all_shown cs parts.1)

none_shown : (cs : List ℕ) → list_any is_control (map masked_char cs) ≡ false
none_shown [] = refl
none_shown (c ∷ cs) = go (is_control c) refl (none_shown cs)
  where
    go : (t : Bool) → is_control c ≡ t → list_any is_control (map masked_char cs) ≡ false
        → list_any is_control (map masked_char (c ∷ cs)) ≡ false
    go true t rest = rw t rest
    go false t rest = rw (t, t) rest

pub masked_has_none : (text : List ℕ) → IsUtf8 text → has_control (masked text) ≡ false
unfolding masked
masked_has_none text utf8 =
    ap (list_any is_control) (chars-encodes (map masked_char (chars text)) (all_shown (chars text)
    (scalars-chars text utf8))) ∙ none_shown (chars text)
