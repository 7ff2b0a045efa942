-- What is made last: the list, once all copies are stored.
use Rattle.std.specs.Prelude.{◌≡◌, ℕ, List, ◌++◌}
use Rattle.dd_files.specs.Calls.{Call, IsEndedBy, IsMadeBy}
use Rattle.dd_files.specs.Files.{Held}
use Rattle.dd_files.specs.PowerCuts.{MakesLast}
use Rattle.dd_pile.specs.Paths.{IsListPath}

-- each file that was made since then has ended
abbrev pub HaveEnded : Held → Held → Type 0
HaveEnded old new = (calls : List Call) → new.calls ≡ old.calls ++ calls
    → (path : List ℕ) → IsMadeBy calls path → IsEndedBy calls path

-- the list of this pile
abbrev pub MakesListLast : List ℕ → Held → Held → Type 0
MakesListLast pile old new = (path : List ℕ) → IsListPath pile path → MakesLast path old new
