-- The evidence for a fault, from what calls have answered.
use Rattle.std.proofs.Common.{◌≡◌, ℕ, false, List, Option, Err, inr, refl, subst, sym}
use Rattle.dd_elem.specs.declared.device.Read.{Ghosts as ReadOf}
use Rattle.dd_elem.specs.declared.device.Write.{Ghosts as WriteOf}
use Rattle.dd_files.proofs.Reasons.{failed_reader, has_failed}
use Rattle.dd_files.specs.Reasons.{HasCounted, HasFailedReader}
use Rattle.dd_filing.specs.Ahead.{IsSentAhead}
use Rattle.dd_filing.specs.Filing.{IsRefusedCopy}
use Rattle.dd_filing.specs.Taken.{Taken}
use Rattle.dd_filing.specs.declared.copying.FilingFault.{FilingFault}
use Rattle.dd_filing.specs.declared.copying.FilingFault.TheVariants as copy
use Rattle.dd_stream.specs.Sends.{StopsIn}
use Rattle.dd_version.specs.declared.parts.Parts.{Parts}
use Rattle.dd_file_set.specs.Reasons.{IsDueTo}
use Rattle.dd_faults.specs.Refusal.{IsMemory}
use Rattle.dd_faults.specs.declared.refusal.ProgramFault.TheVariants as fault
use Rattle.dd_faults.specs.declared.refusal.Refusal.{Refusal}
use Rattle.dd_faults.specs.declared.refusal.Subject.{Subject}

pub still_counted : (old new : ℕ) → new ≡ old → HasCounted old → HasCounted new
still_counted old new is = subst HasCounted (sym is)

-- ---- a copy

-- the evidence for its fault
abbrev pub IsCopyDue : {R : Type 0} → ReadOf R → ℕ → FilingFault → Type 0
IsCopyDue reads failures copy.Memory = Unit {0}
IsCopyDue reads failures copy.Unread = HasFailedReader reads
IsCopyDue reads failures copy.Changed = Unit {0}
IsCopyDue reads failures copy.Unsent = HasCounted failures

pub due_copy : {R : Type 0} (reads : ReadOf R) (refusals failures : ℕ) (of : FilingFault) (origin image : Subject)
    (refusal : Refusal) → IsCopyDue reads failures of → (of ≡ copy.Memory → IsMemory refusal)
    → (of ≡ copy.Unread → refusal ≡ record { subject = origin; fault = fault.Unread })
    → (of ≡ copy.Changed → refusal ≡ record { subject = origin; fault = fault.Changed })
    → (of ≡ copy.Unsent → refusal ≡ record { subject = image; fault = fault.Unsent })
    → IsDueTo reads refusals failures refusal.fault
due_copy reads refusals failures copy.Memory origin image refusal due memory unread changed unsent =
    subst (λ (x : Refusal). IsDueTo reads refusals failures x.fault) (sym (memory refl)) tt
due_copy reads refusals failures copy.Unread origin image refusal due memory unread changed unsent =
    subst (λ (x : Refusal). IsDueTo reads refusals failures x.fault) (sym (unread refl)) due
due_copy reads refusals failures copy.Changed origin image refusal due memory unread changed unsent =
    subst (λ (x : Refusal). IsDueTo reads refusals failures x.fault) (sym (changed refl)) tt
due_copy reads refusals failures copy.Unsent origin image refusal due memory unread changed unsent =
    subst (λ (x : Refusal). IsDueTo reads refusals failures x.fault) (sym (unsent refl)) (inr due)

stopped : {W : Type 0} (writer : WriteOf W) (text : List ℕ) (taken : ℕ) (old new : W)
    → StopsIn writer text 0 taken old new → HasCounted (writer.failures new)
stopped writer text taken old new stops = has_failed (writer.failures old) (writer.failures new) stops.failed

-- of a file that was read ahead
pub ahead_due : {R W : Type 0} (reads : ReadOf R) (writer : WriteOf W) (old new : W) (planned : Parts)
    (said : Option Parts) (of : FilingFault) (file : Taken) → IsSentAhead writer old new planned said (Err of) file
    → (file.whole ≡ false → HasFailedReader reads) → IsCopyDue reads (writer.failures new) of
ahead_due reads writer old new planned said copy.Unread file h due = due h.0
ahead_due reads writer old new planned said copy.Unsent file h due = stopped writer file.bytes h.0 old new h.1
ahead_due reads writer old new planned said copy.Memory file h due = absurd h
ahead_due reads writer old new planned said copy.Changed file h due = absurd h

-- of a file that is read while it is written
pub streamed_due : {R W : Type 0} (reads : ReadOf R) (writer : WriteOf W) (old new : W)
    (of : FilingFault) (limit : ℕ) (given : List ℕ) (left : Option (List ℕ)) (before : ℕ) (reader : R)
    → IsRefusedCopy writer old new of limit given left before (reads.failures reader)
    → IsCopyDue reads (writer.failures new) of
streamed_due reads writer old new copy.Memory limit given left before reader h = tt
streamed_due reads writer old new copy.Unread limit given left before reader h =
    failed_reader reads reader before h.0.1
streamed_due reads writer old new copy.Changed limit given left before reader h = tt
streamed_due reads writer old new copy.Unsent limit given left before reader h =
    stopped writer given h.1.0 old new h.1.1
