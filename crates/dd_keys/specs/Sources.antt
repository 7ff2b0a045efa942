-- What is answered for a source of files: the version of its bytes, or why it has none.
use Rattle.std.specs.Prelude.{◌≡◌, ◌≢◌, ◌↔◌, ◌<◌, ◌≤◌, ℕ, List, length, Result, Err}
use Rattle.dd_version.specs.declared.parts.Parts.{Parts}
use Rattle.dd_keys.specs.Answers.{Answers}
use Rattle.dd_keys.specs.declared.fault.KeyFault.{KeyFault}
use Rattle.dd_keys.specs.declared.fault.KeyFault.TheVariants.{Read, FileTooLong}
use Rattle.dd_keys.specs.Faults.{SaysMemory}

-- the version of a source, or why it has none
abbrev pub Answer : Type 0
Answer = Result Parts KeyFault

-- the fault says neither that a read failed nor that an allocation was refused
abbrev pub IsOfSource : KeyFault → Type 0
IsOfSource fault = (fault ≢ Read) × ¬ SaysMemory fault

-- the answer for a source of these bytes, of which it may have `limit`
pub record AnswersSource (limit : ℕ) (file : List ℕ) (answer : Answer) : Type 0 where
  -- it is too long exactly where it has more
  pub long : (answer ≡ Err FileTooLong) ↔ (limit < length file)
  -- and else the answer is that for the bytes of a file
  pub fits : length file ≤ limit → Answers file answer
