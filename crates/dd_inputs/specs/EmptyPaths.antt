-- Paths that are empty.
use Rattle.std.specs.Prelude.{◌≡◌, ◌<◌, List, ℕ, [], Option, None, Some, String, Contains, length, slice_index_or}
use Rattle.std.specs.Prelude.{string_bytes}
use Rattle.std.specs.declared.alloc.Global.{Global}
use Rattle.clap.specs.Words.{Row, Text}
use Rattle.dd_faults.specs.declared.refusal.ProgramFault.{ProgramFault}
use Rattle.dd_faults.specs.declared.refusal.ProgramFault.TheVariants.{Absent, Folder}
use Rattle.dd_line.specs.Line.{given_paths}
use Rattle.dd_line.specs.Requests.{paths_of}
use Rattle.dd_line.specs.declared.request.Request.{Request}

-- the path of this number is there, and empty
pub record IsEmptyAt (paths : List (String Global)) (at : ℕ) : Type 0 where
  pub within : at < length paths
  pub empty : (otherwise : String Global) → string_bytes (slice_index_or paths at otherwise) ≡ []

-- it is empty, and no path before it is
pub record IsFirstEmpty (paths : List (String Global)) (at : ℕ) : Type 0 where
  pub here : IsEmptyAt paths at
  pub first : (before : ℕ) → before < at → ¬ IsEmptyAt paths before

-- a fault for an empty path: of the folder that is written to, or of a source
abbrev pub IsOfEmptyPath : ProgramFault → Type 0
IsOfEmptyPath Folder = Unit {0}
IsOfEmptyPath Absent = Unit {0}
IsOfEmptyPath fault = ⊥

-- a request has an empty path
abbrev pub RequestsEmptyPath : Request → Type 0
RequestsEmptyPath r = (at : ℕ) × IsEmptyAt (paths_of r) at

-- one of the paths that the named command was given is empty
abbrev pub HasEmptyPath : Option (Text × List Row) → Type 0
HasEmptyPath None = ⊥
HasEmptyPath (Some (command, given)) = Contains (given_paths given) []
