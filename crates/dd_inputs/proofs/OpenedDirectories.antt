-- A directory that was opened stands in the folder.
use Rattle.std.proofs.Common.{List, ℕ, Option, Some, None, Result, Ok, Err, IsOk, IfOk, codes}
use Rattle.dd_elem.specs.declared.device.Read.{Ghosts as ReadOf}
use Rattle.dd_files.specs.Files.{Held, IsUnread}
use Rattle.dd_files.specs.Paths.{IsPathIn}
use Rattle.dd_inputs.specs.Reasons.{StandsDirectory}

pub stands_opened : {R E : Type 0} (reads : ReadOf R) (result : Result R E) (files : Option Held)
    (folder path : List ℕ) → IsPathIn folder (codes "DICOMDIR") path → IsOk result
    → IfOk result (IsUnread reads files path) → StandsDirectory folder files
stands_opened reads (Ok reader) None folder path place opens is = tt
stands_opened reads (Ok reader) (Some held) folder path place opens is = (path, (place, is.left.0))
stands_opened reads (Err other) files folder path place opens is = absurd (cc)
