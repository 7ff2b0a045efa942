-- Unique identifiers (PS3.5 section 9.1).
use Rattle.std.specs.Prelude.{◌≡◌, ◌≤◌, ℕ, Bool, false, not, ◌&&◌, ◌==◌, nat_le, List, [], ◌∷◌, length, slice_index}
use Rattle.std.specs.Prelude.{All}
use Rattle.std.specs.List.{list_all, slice_split, join_with_byte}
use Rattle.dd_elem.specs.Characters.{IsDigit, is_digit}

-- the most characters of a UID
abbrev pub max_uid_length : ℕ
max_uid_length = 64

-- a component: one or more digits, the first of which is a `0` (48) only where it stands alone
pub record IsComponent (component : List ℕ) : Type 0 where
  pub digits : All IsDigit component
  pub not_empty : 1 ≤ length component
  pub no_leading_zero : slice_index component 0 ≡ 48 → length component ≡ 1

-- a UID: components joined by `.` (46), of 1 to `max_uid_length` characters in all
pub record IsUid (bytes : List ℕ) : Type 0 where
  pub components : List (List ℕ)
  pub each : All IsComponent components
  pub joined : bytes ≡ join_with_byte 46 components
  pub not_empty : 1 ≤ length bytes
  pub short : length bytes ≤ max_uid_length

-- is it a component?
abbrev pub is_component : List ℕ → Bool
is_component [] = false
is_component (digit ∷ []) = is_digit digit
is_component (first ∷ next ∷ more) = not (first == 48) && list_all is_digit (first ∷ next ∷ more)

-- is it a UID? (`IsUid` as a test)
unfoldable pub is_uid : List ℕ → Bool
is_uid bytes = nat_le (length bytes) max_uid_length && list_all is_component (slice_split (λ byte. byte == 46) bytes)
