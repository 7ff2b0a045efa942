-- The source that an item says.
use Rattle.std.specs.Prelude.{ℕ, ◌-◌, ◌==◌, if◌then◌else◌, List, [], Option, Some, None, length, replicate}
use Rattle.std.specs.Prelude.{is_some, unwrap_or, Result, Ok, Err, get_or, slice_index, take}
use Rattle.std.specs.Int.{from_le_bytes, w32, w64}
use Rattle.dd_elem.specs.declared.tag.Tag.{Tag}
use Rattle.dd_version.specs.Fitting.{tag}
use Rattle.dd_version.specs.declared.parts.Parts.{Parts}
use Rattle.dd_encoding.specs.Elements.{Content, Element, Elements, bytes, fragments, items}
use Rattle.dd_grammar.specs.Reading.{tag_of}
use Rattle.dd_grammar.specs.declared.fault.SetFault.{SetFault}
use Rattle.dd_grammar.specs.declared.fault.SetFault.TheVariants as set_faults
use Rattle.dd_set.specs.Find.{find_in, value_at}
use Rattle.dd_part10.specs.declared.fault.FileFault.{FileFault}
use Rattle.dd_part10.specs.declared.fault.FileFault.TheVariants as file_faults
use Rattle.dd_keys.specs.declared.fault.KeyFault.{KeyFault}
use Rattle.dd_keys.specs.declared.fault.KeyFault.TheVariants as key_faults
use Rattle.dd_staged.specs.declared.source_fault.SourceFault.{SourceFault}
use Rattle.dd_staged.specs.declared.source_fault.SourceFault.TheVariants as source_faults
use Rattle.dd_staged.specs.Sources.{Source, has_copy}

-- the value at a tag, without its padding; empty where the element is absent
abbrev pub key_at : Tag → Elements → List ℕ
key_at t set = unwrap_or (value_at t set) []

abbrev pub raw_content : Content → List ℕ
raw_content (bytes v) = v
raw_content (items form parts) = []
raw_content (fragments fs) = []

abbrev pub raw_value : Option Element → List ℕ
raw_value None = []
raw_value (Some e) = raw_content e.content

abbrev pub raw_at : Tag → Elements → List ℕ
raw_at t set = raw_value (find_in t set)

-- the last byte, and the name without its end, which the last byte counts
abbrev pub last_of : List ℕ → ℕ
last_of v = get_or v (length v - 1) 0

abbrev pub name_in : List ℕ → List ℕ
name_in v = take (length v - last_of v) v

-- a number of n bytes, where there are as many
abbrev pub sized : ℕ → List ℕ → List ℕ
sized n v = if length v == n then v else replicate n 0

abbrev pub parts_in : Elements → Parts
parts_in set = record {
  digest = raw_at (tag 0x0009 0x1001) set;
  patient = record {
    id = key_at (tag 0x0010 0x0020) set;
    name = key_at (tag 0x0010 0x0010) set;
    charset = key_at (tag 0x0009 0x1007) set;
  };
  study = record {
    uid = key_at (tag 0x0020 0x000d) set;
    date = key_at (tag 0x0008 0x0020) set;
    time = key_at (tag 0x0008 0x0030) set;
    accession = key_at (tag 0x0008 0x0050) set;
    description = key_at (tag 0x0008 0x1030) set;
    id = key_at (tag 0x0020 0x0010) set;
    charset = key_at (tag 0x0008 0x0005) set;
  };
  series = record {
    uid = key_at (tag 0x0020 0x000e) set;
    modality = key_at (tag 0x0008 0x0060) set;
    number = key_at (tag 0x0020 0x0011) set;
  };
  number = key_at (tag 0x0020 0x0013) set;
  class = key_at (tag 0x0004 0x1510) set;
  transfer = key_at (tag 0x0004 0x1512) set;
  instance = key_at (tag 0x0004 0x1511) set;
}

-- ---- faults by their numbers

abbrev pub set_fault_of : ℕ → SetFault
set_fault_of n =
    if n == 1 then set_faults.Truncated
    else (if n == 2 then set_faults.Order
    else (if n == 3 then set_faults.BadVr
    else (if n == 4 then set_faults.Reserved
    else (if n == 5 then set_faults.OddLength
    else (if n == 6 then set_faults.UndefinedLength
    else (if n == 7 then set_faults.UnexpectedTag
    else (if n == 8 then set_faults.BadDelimiter
    else (if n == 9 then set_faults.Overrun
    else set_faults.TooDeep))))))))

abbrev pub file_fault_of : ℕ → ℕ → Tag → List ℕ → FileFault
file_fault_of n deeper t uid =
    if n == 21 then file_faults.NotPart10
    else (if n == 22 then file_faults.GroupLength
    else (if n == 23 then file_faults.MetaMissing t
    else (if n == 24 then file_faults.MetaUid t
    else (if n == 25 then file_faults.OtherSyntax uid
    else (if n == 26 then file_faults.Meta (set_fault_of deeper)
    else file_faults.Set (set_fault_of deeper))))))

abbrev pub key_fault_of : List ℕ → Tag → List ℕ → KeyFault
key_fault_of numbers t uid =
    let n = slice_index numbers 0 in
    if n == 31 then key_faults.File (file_fault_of (slice_index numbers 1) (slice_index numbers 2) t uid)
    else (if n == 32 then key_faults.NotImage uid
    else (if n == 33 then key_faults.MissingKey t
    else (if n == 34 then key_faults.BadKeyUid t
    else (if n == 35 then key_faults.KeyTooLong t
    else (if n == 36 then key_faults.KeyIsSequence t
    else (if n == 37 then key_faults.MetaMismatch t
    else key_faults.FileTooLong))))))

abbrev pub numbers_in : Elements → List ℕ
numbers_in set = sized 4 (raw_at (tag 0x0009 0x1008) set)

abbrev pub key_fault_in : Elements → KeyFault
key_fault_in set = key_fault_of (numbers_in set) (tag_of (sized 4 (raw_at (tag 0x0009 0x1009) set)))
    (key_at (tag 0x0009 0x100a) set)

abbrev pub place_in : Elements → ℕ
place_in set = from_le_bytes w32 (sized 4 (raw_at (tag 0x0009 0x100c) set))

abbrev pub fault_in : Elements → SourceFault
fault_in set =
    let n = slice_index (numbers_in set) 0 in
    if n == 92 then source_faults.Absent
    else (if n == 93 then source_faults.Unread
    else (if n == 99 then source_faults.BadName (place_in set)
    else source_faults.Key (key_fault_in set)))

-- ---- the source: it has a version where the item has a class, and a length where it has a copy

abbrev pub found_in : Elements → Result Parts SourceFault
found_in set = if is_some (find_in (tag 0x0004 0x1510) set) then Ok (parts_in set) else Err (fault_in set)

abbrev pub size_in : Result Parts SourceFault → Elements → ℕ
size_in found set = if has_copy found then from_le_bytes w64 (sized 8 (raw_at (tag 0x0009 0x1006) set)) else 0

abbrev pub source_in : Elements → Source
source_in set = record {
  name = name_in (raw_at (tag 0x0009 0x1005) set);
  size = size_in (found_in set) set;
  found = found_in set;
}
