-- Elements with lent values.
use Rattle.std.specs.Prelude.{◌≡◌, ℕ, true, ◌<◌, ◌≤◌, List, length, map}
use Rattle.dd_elem.specs.Key.{max_key_length}
use Rattle.dd_elem.specs.Uid.{max_uid_length}
use Rattle.dd_elem.specs.Vr.{is_long_of}
use Rattle.dd_elem.specs.declared.vr.Vr.{Vr}
use Rattle.dd_encoding.specs.Elements.{Element, elements_of}
use Rattle.dd_encoding.specs.Spelling.{elements_text, header_limit}
use Rattle.dd_staged.specs.declared.cell.Cell.{Cell}
use Rattle.dd_staged.specs.declared.cell.CellValue.{CellValue}
use Rattle.dd_staged.specs.declared.cell.CellValue.TheVariants.{Bytes, Name, Text, Uid}
use Rattle.dd_staged.specs.Forms.{bytes_element, name_value, padded}

-- the bytes that are lent, and the value
abbrev pub bare_value : CellValue → List ℕ
bare_value (Bytes v) = v.now
bare_value (Name name) = name.now
bare_value (Text key) = key.now
bare_value (Uid uid) = uid.now

abbrev pub cell_value : CellValue → List ℕ
cell_value (Bytes v) = v.now
cell_value (Name name) = name_value name.now
cell_value (Text key) = padded 0x20 key.now
cell_value (Uid uid) = padded 0x00 uid.now

abbrev pub cell_element : Cell → Element
cell_element cell = bytes_element cell.tag cell.vr (cell_value cell.value)

abbrev pub cells_text : List Cell → List ℕ
cells_text cells = elements_text (elements_of (map cell_element cells))

-- The header has room for the value: for bytes by their length, and for a name where its length has 32 bits. Keys and
-- UIDs are short.
abbrev pub HasRoomFor : Vr → CellValue → Type 0
HasRoomFor vr (Bytes v) = length v.now < header_limit vr
HasRoomFor vr (Name name) = is_long_of vr ≡ true
HasRoomFor vr (Text key) = Unit {0}
HasRoomFor vr (Uid uid) = Unit {0}

abbrev pub HasRoom : Cell → Type 0
HasRoom cell = HasRoomFor cell.vr cell.value

-- keys and UIDs are short
abbrev pub IsShortWhere : CellValue → Type 0
IsShortWhere (Bytes v) = Unit {0}
IsShortWhere (Name name) = Unit {0}
IsShortWhere (Text key) = length key.now ≤ max_key_length
IsShortWhere (Uid uid) = length uid.now ≤ max_uid_length
