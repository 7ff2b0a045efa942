-- What sending bytes does to a writer, which is called at most once for each byte of the text. Known of it before and
-- afterwards are the bytes that it holds, where it tells them, paired with what no write changes; and its counts.
use Rattle.std.specs.Prelude.{◌≡◌, ℕ, ◌+◌, ◌<◌, ◌≤◌, List, ◌++◌, length, Option, Result, IfOk, IfErr}
use Rattle.std.specs.Io.KnownBytes.{Appends}
use Rattle.dd_elem.specs.Device.{HasFailed}
use Rattle.dd_elem.specs.declared.counts.Counts.{Counts}
use Rattle.dd_elem.specs.declared.device.Write.{Ghosts as WriteOf}
use Rattle.dd_stream.specs.declared.write_fault.WriteFault.{WriteFault}
use Rattle.dd_stream.specs.declared.write_fault.WriteFault.TheVariants.{Write, NotWritable}

-- The text went whole: the writer holds what it held and then the text, it did not fail, and the rest of it stays.
pub record Goes {R : Type 0} (text : List ℕ) (old new : Option (List ℕ) × R) (before after : Counts) : Type 0 where
  pub holds : Appends old.0 new.0 text
  pub worked : after.failures ≡ before.failures
  pub called : after.calls ≤ before.calls + length text
  pub stays : new.1 ≡ old.1

-- The writer failed and a part of the text did not go. It holds what it held and then the front of the text, which
-- after `sent` bytes makes k bytes. The rest of it stays.
pub record Stops {R : Type 0} (text : List ℕ) (sent k : ℕ) (old new : Option (List ℕ) × R) (before after : Counts)
    : Type 0 where
  pub front : List ℕ
  pub rest : List ℕ
  pub parts : text ≡ front ++ rest
  pub more : 0 < length rest
  pub count : k ≡ sent + length front
  pub holds : Appends old.0 new.0 front
  pub failed : HasFailed before.failures after.failures
  pub called : after.calls ≤ before.calls + length text
  pub stays : new.1 ≡ old.1

-- The text did not go whole by this fault, which is always the writer's.
abbrev pub StopsBy : {R : Type 0} → List ℕ → ℕ → WriteFault → Option (List ℕ) × R → Option (List ℕ) × R
    → Counts → Counts → Type 0
StopsBy text sent (Write k) old new before after = Stops text sent k old new before after
StopsBy text sent NotWritable old new before after = ⊥

-- The result of sending a text after `sent` bytes: how many bytes have gone then, or after how many the writer failed.
pub record Sends {R : Type 0} (text : List ℕ) (sent : ℕ) (result : Result ℕ WriteFault)
    (old new : Option (List ℕ) × R) (before after : Counts) : Type 0 where
  pub ok : IfOk result (λ n. (n ≡ sent + length text) × Goes text old new before after)
  pub err : IfErr result (λ fault. StopsBy text sent fault old new before after)

-- ---- the same of a writer

abbrev pub counts_of : {W : Type 0} → WriteOf W → W → Counts
counts_of writer w = record { calls = writer.calls w; failures = writer.failures w }

abbrev pub GoesTo : {W : Type 0} → WriteOf W → List ℕ → W → W → Type 0
GoesTo writer text old new = Goes text (writer.contents old, writer.rest old) (writer.contents new, writer.rest new)
    (counts_of writer old) (counts_of writer new)

abbrev pub StopsIn : {W : Type 0} → WriteOf W → List ℕ → ℕ → ℕ → W → W → Type 0
StopsIn writer text sent k old new = Stops text sent k (writer.contents old, writer.rest old)
    (writer.contents new, writer.rest new) (counts_of writer old) (counts_of writer new)

abbrev pub SendsTo : {W : Type 0} → WriteOf W → List ℕ → ℕ → Result ℕ WriteFault → W → W → Type 0
SendsTo writer text sent result old new = Sends text sent result (writer.contents old, writer.rest old)
    (writer.contents new, writer.rest new) (counts_of writer old) (counts_of writer new)
