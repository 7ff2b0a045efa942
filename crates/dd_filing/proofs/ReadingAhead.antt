-- What reading a file ahead of its copy finds.
use Rattle.std.proofs.Common.{◌≡◌, ◌≢◌, ℕ, false, List, Option, None, Some, Result, Ok, Err, ap, subst, sym}
use Rattle.std.specs.Prelude.{IfErr}
use Rattle.sha2.specs.Sha256.{sha256}
use Rattle.sha2.specs.declared.Sha256.{Sha256}
use Rattle.dd_keys.specs.Answers.{AnswersReader}
use Rattle.dd_keys.specs.Kept.{AnswersKept, digested_by}
use Rattle.dd_keys.specs.Versions.{IsVersion}
use Rattle.dd_keys.specs.declared.fault.KeyFault.{KeyFault}
use Rattle.dd_keys.specs.declared.fault.KeyFault.TheVariants as faults
use Rattle.dd_slots.specs.Slots.{HasTaken}
use Rattle.dd_slots.specs.declared.slot.Slot.{Slot}
use Rattle.dd_stream.specs.Streams.{Ends}
use Rattle.dd_stream.specs.declared.end.End.TheVariants.{Ended}
use Rattle.dd_version.specs.declared.parts.Parts.{Parts}
use Rattle.dd_filing.proofs.CopiedVersions.{no_version}
use Rattle.dd_filing.specs.Ahead.{IsFoundBy, IsPlace, IsReadAhead, known_by}
use Rattle.dd_filing.specs.Copies.{IsFoundIn}
use Rattle.dd_filing.specs.CopySteps.{IsFilingFault}
use Rattle.dd_filing.specs.declared.places.Found.{Found}
use Rattle.dd_filing.specs.declared.places.Found.TheVariants as found

abbrev faulty : KeyFault → Result Parts KeyFault
faulty fault = Err fault

other_fault : (one other : KeyFault) → one ≢ other → faulty one ≢ faulty other
other_fault one other apart = λ e. apart (cc)

-- ---- a reader that came to its end

whole_end : (limit : ℕ) (given : List ℕ) (left : Option (List ℕ)) (old new : ℕ) (digest : List ℕ)
    (answer : Result Parts KeyFault) → AnswersReader limit given left old new (digested_by digest answer)
    → IfErr answer (λ fault. IsFilingFault fault None) → Ends Ended limit given left old new
whole_end limit given left old new digest (Ok version) h settled = h.ended (λ e. absurd (cc)) (λ e. absurd (cc))
whole_end limit given left old new digest (Err fault) h settled =
    h.ended (other_fault fault faults.Read settled.0) (other_fault fault faults.FileTooLong settled.1.0)

whole_found : (limit : ℕ) (given : List ℕ) (left : Option (List ℕ)) (old new : ℕ) (digest : List ℕ)
    (answer : Result Parts KeyFault) → AnswersReader limit given left old new (digested_by digest answer)
    → IfErr answer (λ fault. IsFilingFault fault None) → IsFoundIn given (digested_by digest answer)
whole_found limit given left old new digest (Ok version) h settled =
    record { answers = h.whole (λ e. absurd (cc)) (λ e. absurd (cc)) tt; settled = tt }
whole_found limit given left old new digest (Err fault) h settled = record {
  answers = h.whole (other_fault fault faults.Read settled.0) (other_fault fault faults.FileTooLong settled.1.0)
      settled.1.1;
  settled = settled;
}

-- ---- what a place keeps of it

pub place_read : (slot : Slot) (answer : Result Parts KeyFault) (one : Found) (limit : ℕ) (given : List ℕ)
    (left : Option (List ℕ)) (old new : ℕ) → AnswersKept answer slot limit given left old new → IsFoundBy answer one
    → IsPlace slot one false
place_read slot answer (found.Whole same) limit given left old new h by = record {
  bytes = given;
  kept = h.kept;
  is = subst (λ (one : Result Parts KeyFault). IsFoundIn given (digested_by (sha256 given) one)) (sym by.0)
      (whole_found limit given left old new (sha256 given) answer h.digested by.1);
  set = λ e. absurd (cc);
}
place_read slot answer found.Nothing limit given left old new h by = tt
place_read slot answer found.Absent limit given left old new h by = tt
place_read slot answer found.Unread limit given left old new h by = tt

pub known_read : (hasher : Option Sha256) (kept : List ℕ) (answer : Result Parts KeyFault) (one : Found) (limit : ℕ)
    (given : List ℕ) (left : Option (List ℕ)) (old new : ℕ) (digest : List ℕ)
    → AnswersReader limit given left old new (digested_by digest answer)
    → HasTaken hasher kept given → IsFoundBy answer one
    → IsReadAhead (known_by one hasher kept) limit given left old new
known_read None kept answer (found.Whole same) limit given left old new digest h taken by =
    (taken, whole_end limit given left old new digest answer h by.1)
known_read (Some hasher) kept answer (found.Whole same) limit given left old new digest h taken by = tt
known_read None kept answer found.Unread limit given left old new digest h taken by =
    (taken, h.read (ap (λ (one : Result Parts KeyFault). digested_by digest one) by))
known_read (Some hasher) kept answer found.Unread limit given left old new digest h taken by = tt
known_read hasher kept answer found.Nothing limit given left old new digest h taken by = tt
known_read hasher kept (Ok version) found.Absent limit given left old new digest h taken by = absurd by
known_read hasher kept (Err fault) found.Absent limit given left old new digest h taken by = absurd by

-- ---- what is found of its bytes

pub version_in : (bytes : List ℕ) (found : Result Parts KeyFault) (version : Parts) → found ≡ Ok version
    → IsFoundIn bytes found → IsVersion bytes version
version_in bytes found version e is = (subst (IsFoundIn bytes) e is).answers.found

pub no_version_in : (bytes : List ℕ) (found : Result Parts KeyFault) (fault : KeyFault) → found ≡ Err fault
    → IsFoundIn bytes found → (version : Parts) → ¬ IsVersion bytes version
no_version_in bytes found fault e is =
    let here = subst (IsFoundIn bytes) e is in no_version bytes fault here.answers here.settled.1.1
