-- What filing an image answers: what the copied file is beside the planned version, or why it was not copied.
use Rattle.std.specs.Prelude.{◌≡◌, ◌≢◌, ℕ, ◌≤◌, ◌+◌, List, length, Option, None, Some, IfSome, Result, Ok, Err}
use Rattle.dd_elem.specs.declared.device.Write.{Ghosts as WriteOf}
use Rattle.dd_stream.specs.Sends.{GoesTo, StopsIn}
use Rattle.dd_stream.specs.Streams.{Ends}
use Rattle.dd_stream.specs.declared.end.End.TheVariants.{Ended, Failed, TooLong}
use Rattle.dd_part10.specs.Memory.{ScanWants}
use Rattle.dd_keys.specs.declared.fault.KeyFault.{KeyFault}
use Rattle.dd_version.specs.declared.parts.Parts.{Parts}
use Rattle.dd_version.specs.Filing.{FiledAs}
use Rattle.dd_keys.specs.Faults.{IsWantOfMemory}
use Rattle.dd_keys.specs.Table.{wanted_tags}
use Rattle.dd_keys.specs.Versions.{IsVersion}
use Rattle.dd_filing.specs.declared.agreeing.Filed.{Filed}
use Rattle.dd_filing.specs.declared.agreeing.Filed.TheVariants.{AsPlanned, OtherVersion, Mislabelled}
use Rattle.dd_filing.specs.declared.copying.FilingFault.{FilingFault}
use Rattle.dd_filing.specs.declared.copying.FilingFault.TheVariants.{Memory, Unread, Unsent, Changed}

-- ---- the copied file beside the planned version and, where one is said, the version that it must be wholly

-- the found version is filed as planned, and where a version is said, each key is that of this one
pub record IsWanted (planned : Parts) (said : Option Parts) (found : Parts) : Type 0 where
  pub filed : FiledAs planned found
  pub whole : IfSome said (λ version. found ≡ version)

-- what a found version is: the wanted one, of another digest, or of the planned digest and not wanted
abbrev pub IsVersionAs : Parts → Option Parts → Filed → Parts → Type 0
IsVersionAs planned said AsPlanned found = IsWanted planned said found
IsVersionAs planned said OtherVersion found = found.digest ≢ planned.digest
IsVersionAs planned said Mislabelled found = (found.digest ≡ planned.digest) × ¬ IsWanted planned said found

-- what a copied file is: a file of the wanted version, a file of a version with another digest, or neither of these
abbrev pub IsFileAs : Parts → Option Parts → Filed → List ℕ → Type 0
IsFileAs planned said AsPlanned file =
    (found : Parts) × (IsVersion file found × IsVersionAs planned said AsPlanned found)
IsFileAs planned said OtherVersion file =
    (found : Parts) × (IsVersion file found × IsVersionAs planned said OtherVersion found)
IsFileAs planned said Mislabelled file =
    (found : Parts) → IsVersion file found → IsVersionAs planned said Mislabelled found

-- the bytes are a file of this version, or, for None, a file of no version
abbrev pub IsVersionOrNone : List ℕ → Option Parts → Type 0
IsVersionOrNone file (Some version) = IsVersion file version
IsVersionOrNone file None = (version : Parts) → ¬ IsVersion file version

-- ---- why it was not copied

-- Why a copy of at most `limit` bytes was refused, to a writer that was `old` and is `new`. Its reader gave `given` and
-- has `left` still to come; its failures were `failures` and are `after`.
abbrev pub IsRefusedCopy : {W : Type 0} → WriteOf W → W → W → FilingFault → ℕ → List ℕ → Option (List ℕ) → ℕ → ℕ
    → Type 0
IsRefusedCopy writer old new Memory limit given left failures after =
    ((fault : KeyFault) × IsWantOfMemory (ScanWants wanted_tags) given fault)
    × (Ends Ended limit given left failures after × GoesTo writer given old new)
IsRefusedCopy writer old new Unread limit given left failures after =
    Ends Failed limit given left failures after × GoesTo writer given old new
IsRefusedCopy writer old new Changed limit given left failures after =
    Ends TooLong limit given left failures after × GoesTo writer given old new
IsRefusedCopy writer old new Unsent limit given left failures after =
    (length given ≤ limit + 1) × ((taken : ℕ) × StopsIn writer given 0 taken old new)

-- ---- the answers

-- the answer of a copy that is compared with no planned version
abbrev pub IsCopyOfVersion : {W : Type 0} → WriteOf W → W → W → Result (Option Parts) FilingFault → ℕ → List ℕ
    → Option (List ℕ) → ℕ → ℕ → Type 0
IsCopyOfVersion writer old new (Ok version) limit given left failures after = IsVersionOrNone given version
    × (Ends Ended limit given left failures after × GoesTo writer given old new)
IsCopyOfVersion writer old new (Err fault) limit given left failures after =
    IsRefusedCopy writer old new fault limit given left failures after

-- the answer of a copy that is compared with the wanted version
abbrev pub IsFiled : {W : Type 0} → WriteOf W → W → W → Parts → Option Parts → Result Filed FilingFault → ℕ → List ℕ
    → Option (List ℕ) → ℕ → ℕ → Type 0
IsFiled writer old new planned said (Ok filed) limit given left failures after = IsFileAs planned said filed given
    × (Ends Ended limit given left failures after × GoesTo writer given old new)
IsFiled writer old new planned said (Err fault) limit given left failures after =
    IsRefusedCopy writer old new fault limit given left failures after
