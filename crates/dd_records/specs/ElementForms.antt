-- Elements as the directory writes them, each in Explicit VR with a value of even length (PS3.5 sections 6.2 and 7.1).
use Rattle.std.specs.Prelude.{ℕ, ◌%◌, List, [], ◌∷◌, ◌++◌, length, Some, if◌then◌else◌, ◌==◌}
use Rattle.byteorder.specs.Endian.{little_bytes}
use Rattle.dd_elem.specs.declared.tag.Tag.{Tag}
use Rattle.dd_elem.specs.declared.vr.Vr.{Vr}
use Rattle.dd_elem.specs.declared.vr.Vr.TheVariants.{UI, UL, US}
use Rattle.dd_encoding.specs.Elements.{bytes, Element}

-- the tag of this group and element number
abbrev pub tag : ℕ → ℕ → Tag
tag group number = record { group = group; element = number }

-- a value of even length: where it is odd, one byte of padding more
abbrev pub padded : ℕ → List ℕ → List ℕ
padded pad v = if length v % 2 == 0 then v else v ++ pad ∷ []

-- an element that holds these bytes
abbrev pub bytes_element : Tag → Vr → List ℕ → Element
bytes_element t vr v = record { tag = t; vr = Some vr; content = bytes v }

-- text, padded by a space
abbrev pub text_element : Tag → Vr → List ℕ → Element
text_element t vr v = bytes_element t vr (padded 0x20 v)

-- a UID, padded by a NUL
abbrev pub uid_element : Tag → List ℕ → Element
uid_element t v = bytes_element t UI (padded 0x00 v)

-- a number of 32 bits, and one of 16
abbrev pub long_element : Tag → ℕ → Element
long_element t n = bytes_element t UL (little_bytes 4 n)

abbrev pub short_element : Tag → ℕ → Element
short_element t n = bytes_element t US (little_bytes 2 n)
