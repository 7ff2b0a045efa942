-- What reading a file answers whose bytes are kept, so that they are digested later.
use Rattle.std.specs.Prelude.{◌≡◌, ℕ, List, Option, Result, Ok, Err, IfOk, replicate}
use Rattle.sha2.specs.Sha256.{sha256}
use Rattle.dd_slots.specs.Slots.{IsSlotOf}
use Rattle.dd_slots.specs.declared.slot.Slot.{Slot}
use Rattle.dd_elem.specs.declared.tag.Tag.{Tag}
use Rattle.dd_version.specs.Copies.{with_digest}
use Rattle.dd_version.specs.declared.parts.Parts.{Parts}
use Rattle.dd_part10.specs.Streaming.{IsFileAnswer}
use Rattle.dd_part10.specs.declared.scanned.Scanned.{Scanned}
use Rattle.dd_part10.specs.declared.stream_fault.StreamFault.{StreamFault}
use Rattle.dd_keys.specs.Answers.{AnswersReader}
use Rattle.dd_keys.specs.declared.fault.KeyFault.{KeyFault}

-- the answer of reading the file, and a slot of all bytes that the reader gave
pub record IsKept (answer : Result Scanned StreamFault) (slot : Slot) (wanted : List Tag) (limit : ℕ) (given : List ℕ)
    (left : Option (List ℕ)) (old new : ℕ) : Type 0 where
  pub file : IsFileAnswer answer wanted limit given left old new
  pub kept : IsSlotOf slot given

-- an answer, once its version has this digest
abbrev pub digested_by : List ℕ → Result Parts KeyFault → Result Parts KeyFault
digested_by digest (Ok version) = Ok (with_digest version digest)
digested_by digest (Err fault) = Err fault

-- the answer of reading a version that has no digest yet
pub record AnswersKept (answer : Result Parts KeyFault) (slot : Slot) (limit : ℕ) (given : List ℕ)
    (left : Option (List ℕ)) (old new : ℕ) : Type 0 where
  -- with the digest of all bytes that the reader gave it is an answer for that reader,
  pub digested : AnswersReader limit given left old new (digested_by (sha256 given) answer)
  -- which are in the slot;
  pub kept : IsSlotOf slot given
  -- and until then the digest is 32 zeros
  pub undigested : IfOk answer (λ version. version.digest ≡ replicate 32 0)
