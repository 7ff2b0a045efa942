-- The sources of piles that were not read when they were staged, and the answers for what lists say of sources.
use Rattle.std.specs.Prelude.{◌≢◌, ◌+◌, ℕ, suc, List, [], ◌∷◌, ◌++◌, length, min, Option, None, Some, Result, Ok, Err, IfErr}
use Rattle.dd_elem.specs.Device.{last_count}
use Rattle.dd_keys.specs.declared.fault.KeyFault.TheVariants.{Read}
use Rattle.dd_keys.specs.Sources.{Answer}
use Rattle.dd_staged.specs.Sources.{Source}
use Rattle.dd_staged.specs.declared.source_fault.SourceFault.{SourceFault}
use Rattle.dd_staged.specs.declared.source_fault.SourceFault.TheVariants.{Absent, BadName, Key}
use Rattle.dd_version.specs.declared.parts.Parts.{Parts}
use Rattle.dicomdir.specs.declared.unread.StagedName.{StagedName}

-- what a list says of a source
abbrev pub Staged : Type 0
Staged = Result Parts SourceFault

-- a source that was not read is answered as one whose read failed
abbrev pub answer_of : Staged → Answer
answer_of (Ok version) = Ok version
answer_of (Err (Key fault)) = Err fault
answer_of (Err fault) = Err Read

-- it was read
abbrev pub WasRead : Staged → Type 0
WasRead staged = IfErr (answer_of staged) (λ fault. fault ≢ Read)

-- the version that is said, where one is
abbrev pub said_of : Staged → Option Parts
said_of (Ok version) = Some version
said_of (Err fault) = None

-- ---- the numbers of sources among those of all piles, from 0

-- what is listed of each of these sources, the first of which has this number
abbrev pub listed_from : {X : Type 0} → (ℕ → Staged → List X) → ℕ → List Source → List X
listed_from Of at [] = []
listed_from Of at (source ∷ sources) = Of at source.found ++ listed_from Of (suc at) sources

-- its number, where it could not be opened
abbrev pub absent_by : ℕ → Staged → List ℕ
absent_by at (Err Absent) = at ∷ []
absent_by at staged = []

-- where its name is not UTF-8, its number and the one that its line has: that in its stage, and how many sources the
-- piles before have, up to the last count
abbrev pub bad_name_by : ℕ → ℕ → Staged → List StagedName
bad_name_by before at (Err (BadName number)) = record { at = at; number = min (before + number) last_count } ∷ []
bad_name_by before at staged = []

-- of all sources of these lists
abbrev pub bad_names_from : ℕ → List (List Source) → List StagedName
bad_names_from before [] = []
bad_names_from before (list ∷ lists) =
    listed_from (bad_name_by before) before list ++ bad_names_from (before + length list) lists
