-- Which bytes are a File ID, whoever wrote it (PS3.10 sections 8.2 and 8.5).
use Rattle.std.specs.Prelude.{◌≡◌, ◌≤◌, ℕ, Bool, ◌&&◌, ◌==◌, nat_le, nat_lt, List, length, count_by, All}
use Rattle.std.specs.List.{list_all, slice_split, join_with_byte}
use Rattle.dd_elem.specs.Characters.{IsIdCharacter, is_id_character}

-- the most components of a File ID
abbrev pub max_components : ℕ
max_components = 8

-- the most characters of a component
abbrev pub max_component_length : ℕ
max_component_length = 8

-- a component: 1 to `max_component_length` characters of IDs
pub record IsFileIdComponent (component : List ℕ) : Type 0 where
  pub characters : All IsIdCharacter component
  pub not_empty : 1 ≤ length component
  pub short : length component ≤ max_component_length

-- a File ID: 1 to `max_components` components joined by `\` (92)
pub record IsFileId (bytes : List ℕ) : Type 0 where
  pub components : List (List ℕ)
  pub each : All IsFileIdComponent components
  pub joined : bytes ≡ join_with_byte 92 components
  pub some : 1 ≤ length components
  pub few : length components ≤ max_components

-- is it a component?
abbrev pub is_file_id_component : List ℕ → Bool
is_file_id_component component = nat_le 1 (length component)
    && (nat_le (length component) max_component_length && list_all is_id_character component)

-- is it a File ID? (`IsFileId` as a test)
unfoldable pub is_file_id_form : List ℕ → Bool
is_file_id_form bytes = nat_lt (count_by (λ byte. byte == 92) bytes) max_components
    && list_all is_file_id_component (slice_split (λ byte. byte == 92) bytes)
