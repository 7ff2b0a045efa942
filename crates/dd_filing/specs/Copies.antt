-- What copying a source answers, of which nothing is planned: its version or why it has none, or why it was not copied.
use Rattle.std.specs.Prelude.{◌≡◌, ◌≢◌, ℕ, min, true, false, List}
use Rattle.std.specs.Prelude.{length, Option, None, Some, Result, Ok, Err, IfErr}
use Rattle.dd_elem.specs.Device.{last_count}
use Rattle.dd_elem.specs.declared.device.Write.{Ghosts as WriteOf}
use Rattle.dd_keys.specs.Answers.{Answers, AnswersReader}
use Rattle.dd_keys.specs.Faults.{SaysMemory}
use Rattle.dd_keys.specs.declared.fault.KeyFault.{KeyFault}
use Rattle.dd_keys.specs.declared.fault.KeyFault.TheVariants.{Read}
use Rattle.dd_stream.specs.Sends.{GoesTo, StopsIn}
use Rattle.dd_version.specs.declared.parts.Parts.{Parts}
use Rattle.dd_filing.specs.CopySteps.{IsFilingFault}
use Rattle.dd_filing.specs.Filing.{IsRefusedCopy}
use Rattle.dd_filing.specs.Taken.{Taken}
use Rattle.dd_filing.specs.declared.copying.FilingFault.{FilingFault}
use Rattle.dd_filing.specs.declared.copying.FilingFault.TheVariants.{Memory, Unread, Unsent, Changed}
use Rattle.dd_filing.specs.declared.source_copies.SourceCopy.{SourceCopy}

-- how many bytes these are, up to the last count
abbrev pub length_of : List ℕ → ℕ
length_of bytes = min (length bytes) last_count

-- the source has no version for a reason of its own: no read failed, and no allocation was refused
abbrev pub IsOfFile : KeyFault → Type 0
IsOfFile fault = (fault ≢ Read) × ¬ SaysMemory fault

-- why the copy of a source was refused: not since the source is too long
abbrev pub IsRefusedSource : {W : Type 0} → WriteOf W → W → W → FilingFault → ℕ → List ℕ → Option (List ℕ) → ℕ → ℕ
    → Type 0
IsRefusedSource writer old new Changed limit given left failures after = ⊥
IsRefusedSource writer old new fault limit given left failures after =
    IsRefusedCopy writer old new fault limit given left failures after

-- The answer of a copy of at most `limit` bytes, and one more, to a writer that was `old` and is `new`. Its reader gave
-- `given` and has `left` still to come; its failures were `failures` and are `after`.
abbrev pub IsFoundCopy : {W : Type 0} → WriteOf W → W → W → Result (Result Parts KeyFault) FilingFault → ℕ → List ℕ
    → Option (List ℕ) → ℕ → ℕ → Type 0
IsFoundCopy writer old new (Ok found) limit given left failures after = IfErr found IsOfFile
    × (AnswersReader limit given left failures after found × GoesTo writer given old new)
IsFoundCopy writer old new (Err fault) limit given left failures after =
    IsRefusedSource writer old new fault limit given left failures after

-- the same with the length of the copy
abbrev pub IsSourceCopy : {W : Type 0} → WriteOf W → W → W → Result SourceCopy FilingFault → ℕ → List ℕ
    → Option (List ℕ) → ℕ → ℕ → Type 0
IsSourceCopy writer old new (Ok copy) limit given left failures after = (copy.size ≡ length_of given)
    × IsFoundCopy writer old new (Ok copy.found) limit given left failures after
IsSourceCopy writer old new (Err fault) limit given left failures after =
    IsRefusedSource writer old new fault limit given left failures after

-- the answer of a copy for the answer of reading the version: Unsent where a write failed, whatever was read
abbrev pub IsFoundAnswer : Option ℕ → Result Parts KeyFault → Result (Result Parts KeyFault) FilingFault → Type 0
IsFoundAnswer (Some late) answer is = is ≡ Err Unsent
IsFoundAnswer None answer (Ok found) = (found ≡ answer) × IfErr answer IsOfFile
IsFoundAnswer None (Ok version) (Err refused) = ⊥
IsFoundAnswer None (Err fault) (Err refused) = (refused ≢ Changed) × IsFilingFault fault (Some refused)

-- what is found of all bytes of a file: its version, or the fault by which it has none
pub record IsFoundIn (bytes : List ℕ) (found : Result Parts KeyFault) : Type 0 where
  pub answers : Answers bytes found
  pub settled : IfErr found (λ fault. IsFilingFault fault None)

-- the copy of a source that was read ahead, to a writer that was `old` and is `new`
abbrev pub IsAheadCopy : {W : Type 0} → WriteOf W → W → W → Result SourceCopy FilingFault → Taken → Type 0
IsAheadCopy writer old new (Ok copy) file = (file.whole ≡ true) × ((copy.size ≡ length file.bytes)
    × (IsFoundIn file.bytes copy.found × GoesTo writer file.bytes old new))
IsAheadCopy writer old new (Err Unread) file = (file.whole ≡ false) × GoesTo writer file.bytes old new
IsAheadCopy writer old new (Err Memory) file = (file.whole ≡ true) × GoesTo writer file.bytes old new
IsAheadCopy writer old new (Err Unsent) file = (taken : ℕ) × StopsIn writer file.bytes 0 taken old new
IsAheadCopy writer old new (Err Changed) file = ⊥
