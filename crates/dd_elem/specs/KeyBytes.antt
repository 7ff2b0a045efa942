-- Bytes that are held in place where they are few.
use Rattle.std.specs.Prelude.{◌≡◌, ◌<◌, ◌≤◌, ℕ, List, length, take}
use Rattle.std.specs.Arc.{arc_slice_items}
use Rattle.dd_elem.specs.declared.key_bytes.KeyBytes.{KeyBytes}
use Rattle.dd_elem.specs.declared.key_bytes.KeyBytes.TheVariants.{Short, Long}

-- how many bytes are held in place at most
abbrev pub most_in_place : ℕ
most_in_place = 22

-- the bytes
abbrev pub key_bytes_view : KeyBytes → List ℕ
key_bytes_view (Short len bytes) = take len bytes
key_bytes_view (Long bytes) = arc_slice_items bytes

-- those in place are as many as it says, and those in a block are more than fit in place
abbrev pub IsKeyBytes : KeyBytes → Type 0
IsKeyBytes (Short len bytes) = (len ≤ most_in_place) × (length (take len bytes) ≡ len)
IsKeyBytes (Long bytes) = most_in_place < length (arc_slice_items bytes)
