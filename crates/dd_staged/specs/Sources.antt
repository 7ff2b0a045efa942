-- What is known of a source that was staged, and which sources there can be.
use Rattle.std.specs.Prelude.{◌≡◌, ◌≢◌, ◌<◌, ◌^◌, ℕ, Bool, true, false, List, Result, Ok, Err, IfErr}
use Rattle.dd_elem.specs.Uid.{IsUid}
use Rattle.dd_elem.specs.declared.tag.Tag.{Tag}
use Rattle.dd_version.specs.WellFormed.{IsWellFormed, IsWellFormedImage, IsWellFormedPatient, IsWellFormedSeries}
use Rattle.dd_version.specs.WellFormed.{IsWellFormedStudy}
use Rattle.dd_version.specs.declared.parts.Parts.{Parts}
use Rattle.dd_part10.specs.declared.fault.FileFault.{FileFault}
use Rattle.dd_part10.specs.declared.fault.FileFault.TheVariants as file_faults
use Rattle.dd_keys.specs.Faults.{SaysMemory}
use Rattle.dd_keys.specs.declared.fault.KeyFault.{KeyFault}
use Rattle.dd_keys.specs.declared.fault.KeyFault.TheVariants as key_faults
use Rattle.dd_staged.specs.declared.source_fault.SourceFault.{SourceFault}
use Rattle.dd_staged.specs.declared.source_fault.SourceFault.TheVariants.{Absent, BadName, Key, Unread}
use Rattle.dd_staged.specs.declared.staged.Staged.{Staged}

-- its name as it was given, the length of its copy, and its version or fault
pub record Source : Type 0 where
  pub name : List ℕ
  pub size : ℕ
  pub found : Result Parts SourceFault

abbrev pub source_view : Staged → Source
source_view s = record { name = s.name.items; size = s.size; found = s.found }

-- the keys, UIDs and digest of a version are well formed, whether its class and transfer syntax are taken or not

pub record HasParts (parts : Parts) : Type 0 where
  pub patient : IsWellFormedPatient parts.patient
  pub study : IsWellFormedStudy parts.study
  pub series : IsWellFormedSeries parts.series
  pub image : IsWellFormedImage parts

-- ---- a fault

abbrev pub IsTag : Tag → Type 0
IsTag tag = (tag.group < 2 ^ 16) × (tag.element < 2 ^ 16)

-- what it names is a tag or a UID
abbrev pub NamesInFile : FileFault → Type 0
NamesInFile (file_faults.MetaMissing tag) = IsTag tag
NamesInFile (file_faults.MetaUid tag) = IsTag tag
NamesInFile (file_faults.OtherSyntax uid) = IsUid uid
NamesInFile fault = Unit {0}

abbrev pub Names : KeyFault → Type 0
Names (key_faults.File fault) = NamesInFile fault
Names (key_faults.NotImage uid) = IsUid uid
Names (key_faults.MissingKey tag) = IsTag tag
Names (key_faults.BadKeyUid tag) = IsTag tag
Names (key_faults.KeyTooLong tag) = IsTag tag
Names (key_faults.KeyIsSequence tag) = IsTag tag
Names (key_faults.MetaMismatch tag) = IsTag tag
Names fault = Unit {0}

-- it says something of what was read: no read failed, and no allocation was refused
pub record IsOfRead (fault : KeyFault) : Type 0 where
  pub read : fault ≢ key_faults.Read
  pub memory : ¬ SaysMemory fault

pub record IsFault (fault : KeyFault) : Type 0 where
  pub of_read : IsOfRead fault
  pub names : Names fault

-- of a source: the number of a bad name has 32 bits
abbrev pub IsSourceFault : SourceFault → Type 0
IsSourceFault (Key fault) = IsFault fault
IsSourceFault Absent = Unit {0}
IsSourceFault Unread = Unit {0}
IsSourceFault (BadName number) = number < 2 ^ 32

-- ---- a source

abbrev pub IsFound : Result Parts SourceFault → Type 0
IsFound (Ok parts) = IsWellFormed parts
IsFound (Err fault) = IsSourceFault fault

-- it was read, so that its copy counts
abbrev pub has_copy : Result Parts SourceFault → Bool
has_copy (Ok parts) = true
has_copy (Err (Key fault)) = true
has_copy (Err fault) = false

-- the length of its copy has 64 bits, and is 0 where none counts
pub record IsSource (source : Source) : Type 0 where
  pub size : source.size < 2 ^ 64
  pub found : IsFound source.found
  pub none : has_copy source.found ≡ false → source.size ≡ 0

-- what `write_stage` can list: a version, a fault of what was read, or with a length of 0 why nothing was
abbrev pub IsListedFault : ℕ → SourceFault → Type 0
IsListedFault size (Key fault) = IsOfRead fault
IsListedFault size fault = size ≡ 0

abbrev pub IsListed : Source → Type 0
IsListed source = IfErr source.found (IsListedFault source.size)
