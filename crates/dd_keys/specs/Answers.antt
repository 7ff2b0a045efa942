-- What reading a version answers: for the bytes of its file, and for a reader that gives them.
use Rattle.std.specs.Prelude.{◌≡◌, ◌≢◌, ◌⊎◌, ℕ, List}
use Rattle.std.specs.Prelude.{Option, Some, Result, Err, IfOk, IfErr, MatchResult}
use Rattle.dd_stream.specs.declared.end.End.TheVariants.{Ended, Failed, TooLong}
use Rattle.dd_stream.specs.Streams.{Ends}
use Rattle.dd_part10.specs.Memory.{SetWants, ScanWants}
use Rattle.dd_part10.specs.declared.stream_fault.StreamFault.{StreamFault}
use Rattle.dd_part10.specs.declared.stream_fault.StreamFault.TheVariants as faults
use Rattle.dd_keys.specs.declared.fault.KeyFault.{KeyFault}
use Rattle.dd_keys.specs.declared.fault.KeyFault.TheVariants.{File, Read, FileTooLong}
use Rattle.dd_version.specs.declared.parts.Parts.{Parts}
use Rattle.dd_keys.specs.Faults.{IsWantOfMemory, SaysMemory, first_fault}
use Rattle.dd_keys.specs.Table.{wanted_tags}
use Rattle.dd_keys.specs.Versions.{IsVersion}

-- the answer for the bytes of a file
pub record Answers (file : List ℕ) (answer : Result Parts KeyFault) : Type 0 where
  -- what is answered is the version of the file
  pub found : IfOk answer (IsVersion file)
  -- a version is answered where there is one, unless memory runs out
  pub only : (version : Parts) → IsVersion file version
      → MatchResult answer (λ parts. parts ≡ version) (IsWantOfMemory SetWants file)
  -- a refusal is the first check that fails, or lack of memory where memory is wanted
  pub fault : IfErr answer (λ fault. IsWantOfMemory SetWants file fault ⊎ (first_fault file ≡ Some fault))

-- The answer for a reader that gave `given` in the call and has `left` still to come; its failures were `old` and are
-- `new`.
pub record AnswersReader (limit : ℕ) (given : List ℕ) (left : Option (List ℕ)) (old new : ℕ)
    (answer : Result Parts KeyFault) : Type 0 where
  -- the reader failed, and had not gone past the limit
  pub read : answer ≡ Err Read → Ends Failed limit given left old new
  -- it gave one byte more than the limit
  pub long : answer ≡ Err FileTooLong → Ends TooLong limit given left old new
  -- each other answer comes once it was read to its end,
  pub ended : answer ≢ Err Read → answer ≢ Err FileTooLong → Ends Ended limit given left old new
  -- and is that for the bytes that it gave,
  pub whole : answer ≢ Err Read → answer ≢ Err FileTooLong → IfErr answer (λ fault. ¬ SaysMemory fault)
      → Answers given answer
  -- or lack of memory where it is wanted, for the data set where an element of the table is there
  pub memory : IfErr answer (λ fault. SaysMemory fault → IsWantOfMemory (ScanWants wanted_tags) given fault)

-- the refusal of a file that was not read
abbrev pub refusal_of : StreamFault → KeyFault
refusal_of faults.Read = Read
refusal_of faults.TooLong = FileTooLong
refusal_of (faults.File fault) = File fault
