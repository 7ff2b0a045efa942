-- How the answer of reading a version becomes the answer of its copy, where no write failed.
use Rattle.std.specs.Prelude.{◌≡◌, ◌≢◌, Option, None, Some, Result, Ok, Err}
use Rattle.dd_keys.specs.declared.fault.KeyFault.{KeyFault}
use Rattle.dd_keys.specs.declared.fault.KeyFault.TheVariants.{Read, FileTooLong}
use Rattle.dd_version.specs.declared.parts.Parts.{Parts}
use Rattle.dd_keys.specs.Faults.{SaysMemory}
use Rattle.dd_filing.specs.declared.copying.FilingFault.{FilingFault}
use Rattle.dd_filing.specs.declared.copying.FilingFault.TheVariants.{Memory, Unread, Unsent, Changed}

-- the refusal for a fault of reading a version, or None where the bytes were read to their end, and are no file of a
-- version
abbrev pub IsFilingFault : KeyFault → Option FilingFault → Type 0
IsFilingFault fault (Some Memory) = SaysMemory fault
IsFilingFault fault (Some Unread) = fault ≡ Read
IsFilingFault fault (Some Changed) = fault ≡ FileTooLong
IsFilingFault fault (Some Unsent) = ⊥
IsFilingFault fault None = (fault ≢ Read) × ((fault ≢ FileTooLong) × ¬ SaysMemory fault)

-- the answer of a copy for what was found of it, where no fault of its bytes is asked for but that they are too many
abbrev pub version_answer : Result Parts KeyFault → Result (Option Parts) FilingFault
version_answer (Ok version) = Ok (Some version)
version_answer (Err FileTooLong) = Err Changed
version_answer (Err fault) = Ok None
