-- The answer of a copy, from the answer of reading the version and from what was written.
use Rattle.std.proofs.Common.{◌≡◌, ◌≢◌, ℕ, ◌+◌, ◌≤◌, List, length, Option, None, Some, Result, Ok, Err}
use Rattle.std.proofs.Common.{refl, ap, subst, sym, arith}
use Rattle.std.specs.Prelude.{IfErr}
use Rattle.dd_elem.specs.declared.device.Write.{Ghosts as WriteOf}
use Rattle.dd_stream.specs.Sends.{GoesTo}
use Rattle.dd_keys.specs.Answers.{AnswersReader}
use Rattle.dd_keys.specs.Faults.{SaysMemory}
use Rattle.dd_keys.specs.declared.fault.KeyFault.{KeyFault}
use Rattle.dd_keys.specs.declared.fault.KeyFault.TheVariants as faults
use Rattle.dd_version.specs.declared.parts.Parts.{Parts}
use Rattle.dd_filing.specs.Copies.{IsFoundAnswer, IsFoundCopy, IsOfFile}
use Rattle.dd_filing.specs.CopySteps.{IsFilingFault}
use Rattle.dd_filing.specs.Sent.{IsCounted, SentTo, late_count}
use Rattle.dd_filing.specs.declared.copying.FilingFault.{FilingFault}
use Rattle.dd_filing.specs.declared.copying.FilingFault.TheVariants.{Memory, Unread, Unsent, Changed}

-- equal errors have equal faults
abbrev refused : KeyFault → Result Parts KeyFault
refused fault = Err fault

err_same : (one other : KeyFault) → refused one ≡ refused other → one ≡ other
err_same one other e = cc

-- however the reading ended, the reader gave at most one byte more than the limit
short : (limit : ℕ) (given : List ℕ) (left : Option (List ℕ)) (old new : ℕ) (answer : Result Parts KeyFault)
    → AnswersReader limit given left old new answer → length given ≤ limit + 1
short limit given left old new (Ok parts) h = omega (arith, (h.ended (λ e. absurd (cc)) (λ e. absurd (cc))).0)
short limit given left old new (Err faults.Read) h = omega (arith, (h.read refl).0)
short limit given left old new (Err faults.FileTooLong) h = omega (arith, (h.long refl).0)
short limit given left old new (Err fault) h = omega (arith, (h.ended (λ e. absurd (cc)) (λ e. absurd (cc))).0)

-- the copy is refused, though no write failed
found_refused : {W : Type 0} (writer : WriteOf W) (limit : ℕ) (given : List ℕ) (left : Option (List ℕ))
    (read_old read_new : ℕ) (fault : KeyFault) (is : FilingFault) (old new : W)
    → AnswersReader limit given left read_old read_new (Err fault)
    → is ≢ Changed → IsFilingFault fault (Some is) → GoesTo writer given old new
    → IsFoundCopy writer old new (Err is) limit given left read_old read_new
found_refused writer limit given left read_old read_new fault Memory old new h short by went =
    let unread : refused fault ≢ refused faults.Read =
    λ e. subst SaysMemory (err_same fault faults.Read e) by in
    let short : refused fault ≢ refused faults.FileTooLong =
    λ e. subst SaysMemory (err_same fault faults.FileTooLong e) by in (
      (fault, h.memory by),
      ((h.ended unread short), went),
    )
found_refused writer limit given left read_old read_new fault Unread old new h short by went =
    ((h.read (ap (λ e. Err e) by)), went)
found_refused writer limit given left read_old read_new fault Changed old new h short by went = absurd (short refl)
found_refused writer limit given left read_old read_new fault Unsent old new h short by went = absurd by

-- where no write failed, the tee has the counts of its reader
tee_unfailed : (limit : ℕ) (given : List ℕ) (left : Option (List ℕ)) (read_old read_new : ℕ) (was : Option ℕ)
    (answer : Result Parts KeyFault) → was ≡ None
    → AnswersReader limit given left (late_count read_old was) read_new answer
    → AnswersReader limit given left read_old read_new answer
tee_unfailed limit given left read_old read_new was answer e h =
    subst (λ (late : Option ℕ). AnswersReader limit given left (late_count read_old late) read_new answer) e h

-- the answer of a copy
pub found_copied : {W : Type 0} (writer : WriteOf W) (limit : ℕ) (given : List ℕ) (left : Option (List ℕ))
    (read_old read_new : ℕ) (was now : Option ℕ) (answer : Result Parts KeyFault)
    (is : Result (Result Parts KeyFault) FilingFault) (old new : W) → was ≡ None
    → AnswersReader limit given left (late_count read_old was) (late_count read_new now) answer
    → IsFoundAnswer now answer is → SentTo writer now given old new
    → IsFoundCopy writer old new is limit given left read_old read_new
found_copied writer limit given left read_old read_new was (Some late) answer is old new e h by sent =
    rw by (short limit given left (late_count read_old was) (late_count read_new (Some late)) answer h, sent)
found_copied writer limit given left read_old read_new was None answer (Ok found) old new e h by sent = (
  subst (λ (one : Result Parts KeyFault). IfErr one IsOfFile) (sym by.0) by.1,
  (
    subst (λ (one : Result Parts KeyFault). AnswersReader limit given left read_old read_new one) (sym by.0)
        (tee_unfailed limit given left read_old read_new was answer e h),
    sent,
  ),
)
found_copied writer limit given left read_old read_new was None (Ok version) (Err refused) old new e h by sent =
    absurd by
found_copied writer limit given left read_old read_new was None (Err fault) (Err refused) old new e h by sent =
    found_refused writer limit given left read_old read_new fault refused old new
    (tee_unfailed limit given left read_old read_new was (Err fault) e h) by.0 by.1 sent

-- the reader was called no more often than the tee
pub fewer_calls : (was now : Option ℕ) (old new most : ℕ) → was ≡ None → IsCounted now new
    → late_count new now ≤ late_count old was + most + 1 → new ≤ old + most + 1
fewer_calls was None old new most e counted few = rw e at few
fewer_calls was (Some late) old new most e counted few =
    let here = rw e at few in omega (arith, counted, here)
