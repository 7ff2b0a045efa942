-- The test `is_set_id` decides `IsSetId`.
use Rattle.std.proofs.Common.{◌≡◌, ◌≤◌, ◌<◌, ℕ, Bool, true, false, ◌&&◌, List, length, refl, sym, ap, ◌∙◌}
use Rattle.std.specs.Prelude.{All, Decides, nat_le}
use Rattle.std.specs.List.{list_all}
use Rattle.std.proofs.lemmas.Bool.{and_parts, and_from, and_left, leb-true, le-leb, lt-leb}
use Rattle.std.proofs.lemmas.Bool.Decides.{Decides-by_and, Decides-or, Decides-eqb}
use Rattle.dd_elem.specs.Characters.{IsIdCharacter, is_id_character}
use Rattle.dd_elem.specs.SetId.{IsSetId, is_set_id, max_set_id_length}

-- a range of characters is tested
within_decides : (low high byte : ℕ) → Decides (nat_le low byte && nat_le byte high) ((low ≤ byte) × (byte ≤ high))
within_decides low high byte = (
  λ e. let p = and_parts _ _ e in (leb-true low byte p.0, leb-true byte high p.1),
  λ h. and_from _ _ (le-leb low byte h.0) (le-leb byte high h.1),
)

-- a character of an ID is tested
character_decides : (byte : ℕ) → Decides (is_id_character byte) (IsIdCharacter byte)
character_decides byte = Decides-or _ _ (within_decides 65 90 byte)
    (Decides-or _ _ (within_decides 48 57 byte) (Decides-eqb byte 95))

-- all characters are tested
pub characters_decide : (bytes : List ℕ) → Decides (list_all is_id_character bytes) (All IsIdCharacter bytes)
characters_decide bytes = Decides-by_and is_id_character IsIdCharacter (list_all is_id_character) character_decides refl
    (λ _ _. refl) bytes

-- the test passes at each ID
pub is_set_id_from_IsSetId : (bytes : List ℕ) → IsSetId bytes → is_set_id bytes ≡ true
unfolding is_set_id
is_set_id_from_IsSetId bytes h = and_from _ _ (le-leb (length bytes) max_set_id_length h.short)
    ((characters_decide bytes).1 h.characters)

-- what passes the test is an ID
pub IsSetId_from_is_set_id : (bytes : List ℕ) → is_set_id bytes ≡ true → IsSetId bytes
unfolding is_set_id
IsSetId_from_is_set_id bytes e =
    let p = and_parts _ _ e in
    record { characters = (characters_decide bytes).0 p.1; short = leb-true (length bytes) max_set_id_length p.0 }

-- the test decides
pub is_set_id_decides : (bytes : List ℕ) → Decides (is_set_id bytes) (IsSetId bytes)
is_set_id_decides bytes = (IsSetId_from_is_set_id bytes, is_set_id_from_IsSetId bytes)

-- the test's result decides
pub decides_from_is : (bytes : List ℕ) (result : Bool) → result ≡ is_set_id bytes → Decides result (IsSetId bytes)
decides_from_is bytes result is = (
  λ e. IsSetId_from_is_set_id bytes (sym is ∙ e),
  λ h. is
      ∙ is_set_id_from_IsSetId bytes h,
)

-- no more than `max_set_id_length` characters, each being tested
pub is_set_id-short : (bytes : List ℕ) → length bytes ≤ max_set_id_length
    → is_set_id bytes ≡ list_all is_id_character bytes
unfolding is_set_id
is_set_id-short bytes short = ap (λ (b : Bool). b && list_all is_id_character bytes)
    (le-leb (length bytes) max_set_id_length short)

-- more than `max_set_id_length` characters fail the test
pub is_set_id-long : (bytes : List ℕ) → max_set_id_length < length bytes → is_set_id bytes ≡ false
unfolding is_set_id
is_set_id-long bytes long = and_left _ _ (lt-leb (length bytes) max_set_id_length long)
