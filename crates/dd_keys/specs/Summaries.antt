-- The checks of the table and the keys of a file, by summaries of the values of its data set. A summary says that a
-- value is a sequence or fragments, or else its first 1,024 bytes and how many it has.
use Rattle.std.specs.Prelude.{◌≡◌, ◌≤◌, ◌⊎◌, ℕ, List, Option, Some, None, Result, Ok, Err, map}
use Rattle.std.specs.Prelude.{nat_lt, if◌then◌else◌}
use Rattle.dd_elem.specs.Key.{IsKey, max_key_length}
use Rattle.dd_elem.specs.declared.tag.Tag.{Tag}
use Rattle.dd_encoding.specs.Elements.{Elements}
use Rattle.dd_scan.specs.Scan.{Summary, sequence, fragments, cleaned, summary_of_value}
use Rattle.dd_encoding.specs.declared.meta.Meta.{Meta}
use Rattle.dd_keys.specs.declared.fault.KeyFault.{KeyFault}
use Rattle.dd_keys.specs.declared.fault.KeyFault.TheVariants.{NotImage, KeyTooLong, KeyIsSequence, Memory}
use Rattle.dd_version.specs.declared.parts.Parts.{Parts}
use Rattle.dd_version.specs.Classes.{is_image_class}
use Rattle.dd_keys.specs.Faults.{wanted_uid, uid_fault_of, first}
use Rattle.dd_keys.specs.Table.{KeyRow, UidRow, Row, key, uid, rows}
use Rattle.dd_keys.specs.Values.{value_at, key_by, uid_by, parts_by}

-- ---- summaries

-- the summary of the value that a data set has at a tag
abbrev pub summary_at : Tag → Elements → Summary
summary_at tag set = summary_of_value (value_at tag set)

-- the front of a value that is not too long for a key is one
abbrev pub IsFront : Summary → Type 0
IsFront sequence = Unit {0}
IsFront fragments = Unit {0}
IsFront (cleaned front size) = size ≤ max_key_length → IsKey front

abbrev pub AreFronts : (Tag → Summary) → Type 0
AreFronts tells = (tag : Tag) → IsFront (tells tag)

-- ---- the checks

-- the bytes that a summary has
abbrev pub front_of : Summary → Option (List ℕ)
front_of sequence = None
front_of fragments = None
front_of (cleaned front size) = Some front

abbrev pub summary_key_fault : Tag → Summary → Option KeyFault
summary_key_fault tag sequence = Some (KeyIsSequence tag)
summary_key_fault tag fragments = Some (KeyIsSequence tag)
summary_key_fault tag (cleaned front size) = if nat_lt max_key_length size then Some (KeyTooLong tag) else None

abbrev pub summary_uid_fault : UidRow → Meta → Summary → Option KeyFault
summary_uid_fault row meta summary = uid_fault_of row.tag (wanted_uid meta row.same_as) (front_of summary)

module _ (meta : Meta) (tells : Tag → Summary) where
  abbrev pub summary_row_fault : Row → Option KeyFault
  summary_row_fault (key row) = summary_key_fault row.tag (tells row.tag)
  summary_row_fault (uid row) = summary_uid_fault row meta (tells row.tag)

  -- the first check of the table that fails
  unfoldable pub summary_table_fault : Option KeyFault
  summary_table_fault = first (map summary_row_fault rows)

  -- the first check that fails, the class before the table
  abbrev pub summary_fault : Option KeyFault
  summary_fault = if is_image_class meta.class then summary_table_fault else Some (NotImage meta.class)

-- ---- the keys

module _ (tells : Tag → Summary) where
  -- the bytes that the summary at each tag has
  abbrev pub summary_values : Tag → Option (List ℕ)
  summary_values tag = front_of (tells tag)

  abbrev pub summary_key : KeyRow → List ℕ
  summary_key row = key_by summary_values row

  -- the bytes at a tag: no bytes where the value is a sequence
  abbrev pub summary_bytes : Tag → List ℕ
  summary_bytes tag = uid_by summary_values tag

  abbrev pub summary_parts : List ℕ → Meta → Parts
  summary_parts digest meta = parts_by summary_values digest meta

-- the answer, where this is the first check that fails and these are the parts; lack of memory comes after all checks
abbrev pub IsJudged : Option KeyFault → Parts → Result Parts KeyFault → Type 0
IsJudged check parts (Ok version) = (check ≡ None) × (version ≡ parts)
IsJudged check parts (Err fault) = (check ≡ None) × (fault ≡ Memory) ⊎ (check ≡ Some fault)
