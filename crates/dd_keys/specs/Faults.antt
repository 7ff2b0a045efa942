-- The first check that a file fails as a file of a version: the checks of a file, then its class, then the table from
-- top to bottom.
use Rattle.std.specs.Prelude.{◌≡◌, ℕ, List, [], ◌∷◌, Option, Some, None, Result, Ok, Err, length, map, nat_lt}
use Rattle.std.specs.Prelude.{if◌then◌else◌}
use Rattle.std.specs.Str.{bytes_eq}
use Rattle.dd_elem.specs.Key.{max_key_length}
use Rattle.dd_elem.specs.Uid.{is_uid}
use Rattle.dd_elem.specs.declared.tag.Tag.{Tag}
use Rattle.dd_encoding.specs.Elements.{Elements}
use Rattle.dd_grammar.specs.declared.fault.SetFault.TheVariants as parsing
use Rattle.dd_part10.specs.declared.fault.FileFault.{FileFault}
use Rattle.dd_part10.specs.declared.fault.FileFault.TheVariants.{Meta as MetaFault, Set}
use Rattle.dd_encoding.specs.declared.meta.Meta.{Meta}
use Rattle.dd_part10.specs.Faults as file_faults
use Rattle.dd_part10.specs.Memory.{GroupWants}
use Rattle.dd_part10.specs.Reading.{FileParts, file_in}
use Rattle.dd_keys.specs.declared.fault.KeyFault.{KeyFault}
use Rattle.dd_keys.specs.declared.fault.KeyFault.TheVariants.{File, NotImage, MissingKey, BadKeyUid, KeyTooLong}
use Rattle.dd_keys.specs.declared.fault.KeyFault.TheVariants.{KeyIsSequence, MetaMismatch, Memory}
use Rattle.dd_keys.specs.declared.rows.MetaUid.{MetaUid}
use Rattle.dd_keys.specs.declared.rows.MetaUid.TheVariants.{Class, Instance}
use Rattle.dd_version.specs.Classes.{is_image_class}
use Rattle.dd_keys.specs.Table.{KeyRow, UidRow, Row, key, uid, rows}
use Rattle.dd_keys.specs.Values.{value_at}

-- ---- a key: it is no sequence, and not too long

abbrev pub key_fault_of : Tag → Option (List ℕ) → Option KeyFault
key_fault_of tag None = Some (KeyIsSequence tag)
key_fault_of tag (Some value) = if nat_lt max_key_length (length value) then Some (KeyTooLong tag) else None

abbrev pub key_fault : KeyRow → Elements → Option KeyFault
key_fault row set = key_fault_of row.tag (value_at row.tag set)

-- ---- a UID: it is no sequence, it is there, it is a UID, and the one that group 0002 has

-- the UID of group 0002 that a row has to repeat
abbrev pub wanted_uid : Meta → Option MetaUid → Option (List ℕ)
wanted_uid meta None = None
wanted_uid meta (Some Class) = Some meta.class
wanted_uid meta (Some Instance) = Some meta.instance

abbrev pub mismatch_of : Tag → Option (List ℕ) → List ℕ → Option KeyFault
mismatch_of tag None value = None
mismatch_of tag (Some wanted) value = if bytes_eq value wanted then None else Some (MetaMismatch tag)

abbrev pub uid_fault_of : Tag → Option (List ℕ) → Option (List ℕ) → Option KeyFault
uid_fault_of tag wanted None = Some (KeyIsSequence tag)
uid_fault_of tag wanted (Some []) = Some (MissingKey tag)
uid_fault_of tag wanted (Some (byte ∷ value)) =
    if is_uid (byte ∷ value) then mismatch_of tag wanted (byte ∷ value) else Some (BadKeyUid tag)

abbrev pub uid_fault : UidRow → Meta → Elements → Option KeyFault
uid_fault row meta set = uid_fault_of row.tag (wanted_uid meta row.same_as) (value_at row.tag set)

-- ---- the table and the file

abbrev pub row_fault : FileParts → Row → Option KeyFault
row_fault file (key row) = key_fault row file.set
row_fault file (uid row) = uid_fault row file.meta file.set

-- the first one that is there
abbrev pub first : List (Option KeyFault) → Option KeyFault
first [] = None
first (None ∷ others) = first others
first (Some fault ∷ others) = Some fault

-- the first check of the table that a file fails
unfoldable pub table_fault : FileParts → Option KeyFault
table_fault file = first (map (row_fault file) rows)

abbrev pub fault_of : Result FileParts FileFault → Option KeyFault
fault_of (Err fault) = Some (File fault)
fault_of (Ok file) = if is_image_class file.meta.class then table_fault file else Some (NotImage file.meta.class)

-- the first check that the bytes fail
abbrev pub first_fault : List ℕ → Option KeyFault
first_fault file = fault_of (file_in file)

-- ---- lack of memory: where parsing the file needs it, and after all checks

-- the fault says that an allocation was refused: here, or while the bytes were read as a file
abbrev pub SaysMemory : KeyFault → Type 0
SaysMemory Memory = Unit {0}
SaysMemory (File fault) = file_faults.SaysMemory fault
SaysMemory fault = ⊥

-- It says so where memory is needed: for group 0002 (PS3.10 section 7.1) where reading it needs some, for the data set
-- where `set_wants` says so, and after all checks.
abbrev pub IsWantOfMemory : (List ℕ → Type 0) → List ℕ → KeyFault → Type 0
IsWantOfMemory set_wants file Memory = first_fault file ≡ None
IsWantOfMemory set_wants file (File (MetaFault parsing.Memory)) = GroupWants file
IsWantOfMemory set_wants file (File (Set parsing.Memory)) = set_wants file
IsWantOfMemory set_wants file fault = ⊥
