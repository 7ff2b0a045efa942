-- What a fault of `check` or `list` rests on.
use Rattle.std.specs.Prelude.{ℕ, List, Option}
use Rattle.dd_walk.specs.Reading.{Refuses}
use Rattle.dd_faults.specs.Grounds.{NeedsNoGrounds}
use Rattle.dd_faults.specs.declared.refusal.ProgramFault.{ProgramFault}
use Rattle.dd_faults.specs.declared.refusal.ProgramFault.TheVariants.{Dir, TooLong}
use Rattle.dd_files.specs.Files.{Held}
use Rattle.dd_files.specs.ReadToEnd.{IsTooLong}
use Rattle.dd_inspecting.specs.Directories.{HasDirectory, HasSuchDirectory}

-- the grounds of a fault of `check`
abbrev pub GroundsOfCheck : List ℕ → Option Held → ProgramFault → Type 0
GroundsOfCheck folder files TooLong = HasSuchDirectory folder IsTooLong files
GroundsOfCheck folder files fault = NeedsNoGrounds fault

-- the grounds of a fault of `list`: also that the directory has no walk
abbrev pub GroundsOfList : List ℕ → Option Held → ProgramFault → Type 0
GroundsOfList folder files (Dir fault) =
    (bytes : List ℕ) × HasDirectory folder bytes files × Refuses bytes fault
GroundsOfList folder files fault = GroundsOfCheck folder files fault
