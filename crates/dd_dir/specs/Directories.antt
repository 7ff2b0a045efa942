-- The bytes of a directory (PS3.3 section F.3.2, PS3.10 section 8.6).
use Rattle.std.specs.Prelude.{◌≡◌, ◌<◌, ◌+◌, ℕ, List, [], ◌∷◌, ◌++◌, All, length, map, Option, None, Some, slice_get, codes}
use Rattle.std.specs.List.{last_or}
use Rattle.dd_catalogue.specs.Harmony.{harmonised}
use Rattle.dd_elem.specs.Digests.{uid_of_digest}
use Rattle.dd_elem.specs.declared.vr.Vr.TheVariants.{SQ}
use Rattle.dd_version.specs.declared.parts.Parts.{Parts}
use Rattle.dd_part10.specs.File.{IsFile}
use Rattle.dd_encoding.specs.Head.{head_text}
use Rattle.dd_encoding.specs.Elements.{Elements, Element, elements_of}
use Rattle.dd_encoding.specs.Spelling.{elements_text, header_text}
use Rattle.dd_records.specs.declared.label.Label.{Label}
use Rattle.dd_records.specs.declared.record.PlanRecord.{PlanRecord}
use Rattle.dd_records.specs.Directory.{directory_elements, front_elements, meta_of}
use Rattle.dd_records.specs.ElementForms.{tag}
use Rattle.dd_layout.specs.Layouts.{StandsWithin}
use Rattle.dd_layout.specs.Plans.{at_or_none, records_of, tree}
use Rattle.dd_records.specs.Records.{record_elements, record_item}
use Rattle.dd_records.specs.Sizes.{record_size}
use Rattle.dd_layout.specs.Tree.{children, first_child}
use Rattle.dd_records.specs.Withdrawals.{withdrawal_elements}
use Rattle.sha2.specs.Sha256.{sha256}

-- The offset of the first root record, and of the last, where there are records. The path of a root has one part, and
-- the empty path is its parent.
abbrev pub first_root : Label → List Parts → ℕ
first_root label versions = at_or_none label versions (first_child (tree versions) [])

abbrev pub last_root : Label → List Parts → ℕ
last_root label versions = at_or_none label versions (last_or None (children (tree versions) []))

-- All offsets in a directory of these versions are smaller than this number of bytes. They are the offsets of the first
-- and the last root record, of each record, of its next one and of the first one below. The offset is 0 where there is
-- no record.
pub record OffsetsWithin (bytes : ℕ) (label : Label) (versions : List Parts) : Type 0 where
  pub first : first_root label versions < bytes
  pub last : last_root label versions < bytes
  pub records : All (StandsWithin bytes) (records_of label versions)

-- the elements of a record, with the keys of the version that it is of
abbrev pub elements_by : PlanRecord → Option Parts → List Element
elements_by planned None = []
elements_by planned (Some version) =
    record_elements planned.level planned.next planned.lower planned.file version

abbrev pub elements_for : List Parts → PlanRecord → List Element
elements_for versions planned = elements_by planned (slice_get versions planned.of)

-- the offset at which a record ends that these records follow, where the last one ends at this offset
abbrev pub end_before : ℕ → List PlanRecord → ℕ
end_before end [] = end
end_before end (next ∷ rows) = next.at

-- each of these records has the bytes from its offset up to where it ends
abbrev pub AreMeasured : List Parts → ℕ → List PlanRecord → Type 0
AreMeasured versions end [] = Unit {0}
AreMeasured versions end (planned ∷ rows) =
    (planned.at + record_size (elements_for versions planned) ≡ end_before end rows) × AreMeasured versions end rows

-- the elements of the directory of these versions, which are in harmony, and of these withdrawn UIDs
abbrev pub directory_set : Label → List Parts → List (List ℕ) → Elements
directory_set label versions withdrawn = elements_of (directory_elements label.id (first_root label versions)
    (last_root label versions) (map record_item (map (elements_for versions) (records_of label versions)))
    ++ withdrawal_elements withdrawn)

-- its bytes: the head of the file and the elements
abbrev pub directory_of : Label → List Parts → List (List ℕ) → List ℕ
directory_of label versions withdrawn =
    head_text (meta_of label) ++ elements_text (directory_set label versions withdrawn)

-- the bytes before its records, which take this many bytes together: the head of the file, the elements before the
-- sequence of the records, and its header
abbrev pub opening_text : Label → List Parts → ℕ → List ℕ
opening_text label versions count = head_text (meta_of label) ++ (
    elements_text (elements_of (front_elements label.id (first_root label versions) (last_root label versions)))
    ++ header_text (tag 0x0004 0x1220) (Some SQ) count)

-- they are a file of the class of directories, whose data set has these elements
abbrev pub IsDirectory : Label → List Parts → List (List ℕ) → Type 0
IsDirectory label versions withdrawn = IsFile (directory_of label versions withdrawn) (meta_of label)
    (directory_set label versions withdrawn) (length (head_text (meta_of label)))

-- the directory of the versions and the withdrawn UIDs of a catalogue
abbrev pub directory : Label → List Parts → List (List ℕ) → List ℕ
directory label m withdrawn = directory_of label (harmonised m) withdrawn

-- the label of a file-set with this ID that has no UID of its own
abbrev pub unnamed_label : List ℕ → Label
unnamed_label id = record { id = id; uid = codes "2.25.0" }

-- the UID that such a file-set gets, from the digest of its directory under this label
abbrev pub derived : List ℕ → List Parts → List (List ℕ) → List ℕ
derived id m withdrawn = uid_of_digest (sha256 (directory (unnamed_label id) m withdrawn))
