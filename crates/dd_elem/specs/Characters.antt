-- The characters of IDs and of UIDs (PS3.5 sections 6.2 and 9.1, PS3.10 section 8.5).
use Rattle.std.specs.Prelude.{◌≡◌, ◌≤◌, ◌⊎◌, ℕ, Bool, ◌&&◌, ◌||◌, ◌==◌, nat_le}

-- a digit, `0` to `9`
abbrev pub IsDigit : ℕ → Type 0
IsDigit byte = (48 ≤ byte) × (byte ≤ 57)

-- a character of an ID: `A` to `Z`, a digit or `_`
abbrev pub IsIdCharacter : ℕ → Type 0
IsIdCharacter byte = ((65 ≤ byte) × (byte ≤ 90)) ⊎ (IsDigit byte ⊎ (byte ≡ 95))

-- is it a digit?
abbrev pub is_digit : ℕ → Bool
is_digit byte = nat_le 48 byte && nat_le byte 57

-- is it a character of an ID?
abbrev pub is_id_character : ℕ → Bool
is_id_character byte = (nat_le 65 byte && nat_le byte 90) || (is_digit byte || (byte == 95))
