-- What the elements of a directory and of its records say (PS3.3 sections F.3.2.1 and F.3.2.2).
use Rattle.std.specs.Prelude.{ℕ, Bool, false, ◌==◌, List, [], ◌∷◌, length, Option, Some, None, option_and_then}
use Rattle.std.specs.Prelude.{option_map, unwrap_or, if◌then◌else◌}
use Rattle.std.specs.Str.{bytes_eq}
use Rattle.std.specs.Int.{w16, w32, from_le_bytes}
use Rattle.dd_elem.specs.Clean.{clean_of}
use Rattle.dd_elem.specs.declared.tag.Tag.{Tag}
use Rattle.dd_encoding.specs.Elements.{Elements, Content, bytes, items, fragments, Element, Items, no_items, item}
use Rattle.dd_set.specs.Find.{find_in, value_at}
use Rattle.dd_records.specs.ElementForms.{tag}
use Rattle.dd_records.specs.Records.{private_creator}
use Rattle.dd_walk.specs.Trees.{Beside}

-- ---- values

-- the bytes of a value that is no sequence and has no fragments
abbrev pub bytes_of : Content → Option (List ℕ)
bytes_of (bytes v) = Some v
bytes_of (items form parts) = None
bytes_of (fragments fs) = None

-- the value of the element with this tag, where it is there and holds bytes
abbrev pub value_of : Tag → Elements → Option (List ℕ)
value_of wanted set = option_and_then (λ (e : Element). bytes_of e.content) (find_in wanted set)

-- its bytes without their padding, and nothing where there are none
abbrev pub key_of : Tag → Elements → List ℕ
key_of wanted set = unwrap_or (value_at wanted set) []

-- a value names the creator of the private elements that are written here
abbrev pub is_creator : Option (List ℕ) → Bool
is_creator None = false
is_creator (Some v) = bytes_eq v private_creator

-- the number that 4 bytes are, and whether 2 bytes are FFFFH
abbrev pub number_of : List ℕ → Option ℕ
number_of v = if length v == 4 then Some (from_le_bytes w32 v) else None

abbrev pub flag_of : List ℕ → Option Bool
flag_of v = if length v == 2 then Some (from_le_bytes w16 v == 0xffff) else None

-- text without its padding, where something is left
abbrev pub text_of : List ℕ → Option (List ℕ)
text_of v = if length (clean_of v) == 0 then None else Some (clean_of v)

-- ---- a record

-- what each record begins with: the offsets of the next record of its level and of the first one below it, whether it
-- is in use, and its type
pub record Links : Type 0 where
  pub next : ℕ
  pub lower : ℕ
  pub in_use : Bool
  pub kind : List ℕ

abbrev pub links_by : Option ℕ → Option Bool → Option ℕ → Option (List ℕ) → Option Links
links_by None flag lower kind = None
links_by (Some next) None lower kind = None
links_by (Some next) (Some in_use) None kind = None
links_by (Some next) (Some in_use) (Some lower) None = None
links_by (Some next) (Some in_use) (Some lower) (Some kind) =
    Some (record { next = next; lower = lower; in_use = in_use; kind = kind })

-- the links that the elements of a record say, where all four are there and have their form
unfoldable pub links_in : Elements → Option Links
links_in set = links_by (option_and_then number_of (value_of (tag 0x0004 0x1400) set))
    (option_and_then flag_of (value_of (tag 0x0004 0x1410) set))
    (option_and_then number_of (value_of (tag 0x0004 0x1420) set))
    (option_and_then text_of (value_of (tag 0x0004 0x1430) set))

-- a value of 32 bytes
abbrev pub sized : List ℕ → Option (List ℕ)
sized v = if length v == 32 then Some v else None

-- the digest of the file of an image, in the block of private elements of that creator (PS3.5 section 7.8.1)
abbrev pub digest_in : Elements → Option (List ℕ)
digest_in set =
    if is_creator (value_at (tag 0x0009 0x0010) set) then option_and_then sized (value_of (tag 0x0009 0x1001) set)
    else None

-- ---- a directory

-- the data sets of items
abbrev pub sets_of : Items → List Elements
sets_of no_items = []
sets_of (item form set rest) = set ∷ sets_of rest

abbrev pub item_sets_of : Content → Option (List Elements)
item_sets_of (bytes v) = None
item_sets_of (items form parts) = Some (sets_of parts)
item_sets_of (fragments fs) = None

-- the data sets of the records, where they are items
abbrev pub records_in : Elements → Option (List Elements)
records_in set = option_and_then (λ (e : Element). item_sets_of e.content) (find_in (tag 0x0004 0x1220) set)

-- the offsets of the first and of the last root record
abbrev pub first_in : Elements → Option ℕ
first_in set = option_and_then number_of (value_of (tag 0x0004 0x1200) set)

abbrev pub last_in : Elements → Option ℕ
last_in set = option_and_then number_of (value_of (tag 0x0004 0x1202) set)

-- the File-set ID without its padding, and nothing where there is no ID
abbrev pub id_in : Elements → List ℕ
id_in set = key_of (tag 0x0004 0x1130) set

-- The value that names the withdrawn UIDs, without its padding, in the block of private elements of that creator (PS3.5
-- section 7.8.1). None where it is not there or does not hold bytes.
abbrev pub withdrawn_in : Elements → Option (List ℕ)
withdrawn_in set =
    if is_creator (value_at (tag 0x0009 0x0010) set) then option_map clean_of (value_of (tag 0x0009 0x1002) set)
    else None

-- what it says beside its records, where this UID names it
abbrev pub beside_in : List ℕ → Elements → Beside
beside_in uid set = record { uid = uid; id = id_in set; withdrawn = withdrawn_in set }
