-- The IDs of file-sets (PS3.3 section F.3.2.1, PS3.5 section 6.2).
use Rattle.std.specs.Prelude.{◌≤◌, ℕ, Bool, ◌&&◌, nat_le, List, length, All}
use Rattle.std.specs.List.{list_all}
use Rattle.dd_elem.specs.Characters.{IsIdCharacter, is_id_character}

-- the most characters of the ID of a file-set
abbrev pub max_set_id_length : ℕ
max_set_id_length = 16

-- the ID of a file-set: at most `max_set_id_length` characters of IDs
pub record IsSetId (bytes : List ℕ) : Type 0 where
  pub characters : All IsIdCharacter bytes
  pub short : length bytes ≤ max_set_id_length

-- is it the ID of a file-set? (`IsSetId` as a test)
unfoldable pub is_set_id : List ℕ → Bool
is_set_id bytes = nat_le (length bytes) max_set_id_length && list_all is_id_character bytes
