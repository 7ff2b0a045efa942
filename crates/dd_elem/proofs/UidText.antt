-- A UID is a text: its bytes are ASCII.
use Rattle.std.proofs.Common.{ℕ, ◌<◌, List, [], ◌∷◌, sym, subst, arith}
use Rattle.std.specs.Prelude.{All}
use Rattle.std.specs.List.{join_with_byte}
use Rattle.std.specs.Str.{IsAscii, IsUtf8}
use Rattle.std.proofs.lemmas.List.Elements.{All-nil, All-cons, All-head, All-tail, All-weaker}
use Rattle.std.proofs.lemmas.Str.{IsAscii-append, IsUtf8-from_ascii}
use Rattle.std.proofs.lemmas.Str.Ascii.{IsAscii-nil, IsAscii-from_all}
use Rattle.dd_elem.specs.Characters.{IsDigit}
use Rattle.dd_elem.specs.Uid.{IsComponent, IsUid}

component_ascii : (component : List ℕ) → IsComponent component → IsAscii component
component_ascii component h = IsAscii-from_all component
    (All-weaker IsDigit (λ byte. byte < 128) (λ byte digit. omega (arith, digit.1)) component h.digits)

dot_ascii : IsAscii (46 ∷ [])
dot_ascii = IsAscii-from_all (46 ∷ []) (All-cons (λ byte. byte < 128) 46 [] (omega arith)
    (All-nil (λ byte. byte < 128)))

joined_ascii : (components : List (List ℕ)) → All IsComponent components → IsAscii (join_with_byte 46 components)
joined_ascii [] each = IsAscii-nil
joined_ascii (first ∷ []) each = component_ascii first (All-head IsComponent first [] each)
joined_ascii (first ∷ next ∷ more) each =
    let rest = join_with_byte 46 (next ∷ more) in
    IsAscii-append first (46 ∷ rest) (component_ascii first (All-head IsComponent first (next ∷ more) each))
    (IsAscii-append (46 ∷ []) rest dot_ascii
    (joined_ascii (next ∷ more) (All-tail IsComponent first (next ∷ more) each)))

pub IsUtf8_from_IsUid : (bytes : List ℕ) → IsUid bytes → IsUtf8 bytes
IsUtf8_from_IsUid bytes h = IsUtf8-from_ascii bytes (subst IsAscii (sym h.joined) (joined_ascii h.components h.each))
