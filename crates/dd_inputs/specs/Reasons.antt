-- Why a command is refused before its work: of what is to be made, or of its list of names.
use Rattle.std.specs.Prelude.{◌≡◌, ℕ, List, Option, Some, IfSome, IsSome, codes, string_bytes}
use Rattle.dd_elem.specs.declared.device.Read.{Ghosts as ReadOf}
use Rattle.dd_faults.specs.declared.refusal.ProgramFault.{ProgramFault}
use Rattle.dd_faults.specs.declared.refusal.ProgramFault.TheVariants.{Absent, BadName, Create, Memory, TooLong, Unread}
use Rattle.dd_files.specs.Files.{Held}
use Rattle.dd_files.specs.Keeping.{HasBytes, HasSuch}
use Rattle.dd_files.specs.Paths.{IsPathIn}
use Rattle.dd_files.specs.ReadToEnd.{IsTooLong}
use Rattle.dd_files.specs.Reasons.{HasCounted, HasFailedReader}
use Rattle.dd_line.specs.Requests.{folder_of, keeps_going}
use Rattle.dd_line.specs.declared.request.Request.{Request}
use Rattle.dd_line.specs.declared.request.Request.TheVariants.{Stage}
use Rattle.dd_inputs.specs.From.{from_in, looked_up}
use Rattle.dd_inputs.specs.ListedNames.{FailsAt, list_of, parts}

-- a directory stands in the folder, where files say what they hold
abbrev pub StandsDirectory : List ℕ → Option Held → Type 0
StandsDirectory folder files = IfSome files (λ held. (path : List ℕ)
    × (IsPathIn folder (codes "DICOMDIR") path × IsSome (held.bytes_at path)))

-- this is so of the bytes of the list of names
pub record IsOfList (r : Request) (Is : List ℕ → Type 0) (files : Option Held) : Type 0 where
  pub path : List ℕ
  pub named : list_of r ≡ Some path
  pub bytes : List ℕ
  pub read : HasBytes path bytes files
  pub is : Is bytes

-- a pile may be there, or a directory in the folder of a file-set
abbrev pub StandsAlready : (List ℕ → Type 0) → Request → Option Held → Type 0
StandsAlready may_be_taken (Stage x) files = may_be_taken (string_bytes x.pile)
StandsAlready may_be_taken r files = StandsDirectory (looked_up (from_in r) (folder_of r)) files

-- the list of names could not be opened or read, or has too many bytes or a bad name; or an allocation was refused
abbrev pub IsDueToList : {R : Type 0} → ReadOf R → ℕ → Request → Option Held → ProgramFault → Type 0
IsDueToList reads refusals r files Absent = HasCounted refusals
IsDueToList reads refusals r files Unread = HasFailedReader reads
IsDueToList reads refusals r files TooLong =
    (path : List ℕ) × (list_of r ≡ Some path) × HasSuch path IsTooLong files
IsDueToList reads refusals r files (BadName number) =
    IsOfList r (λ bytes. FailsAt (keeps_going r) (parts bytes) number) files
IsDueToList reads refusals r files Memory = Unit {0}
IsDueToList reads refusals r files fault = ⊥

-- or what is to be made may be there already
abbrev pub IsDueBefore : {R : Type 0} → ReadOf R → ℕ → (List ℕ → Type 0) → Request → Option Held → ProgramFault → Type 0
IsDueBefore reads refusals may_be_taken r files Create = StandsAlready may_be_taken r files
IsDueBefore reads refusals may_be_taken r files fault = IsDueToList reads refusals r files fault
