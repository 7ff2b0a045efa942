-- The evidence for a fault of an engine, and for the refusal that has a fault.
use Rattle.std.proofs.Common.{◌≡◌, ℕ, Bool, subst, sym}
use Rattle.dd_elem.specs.declared.device.Read.{Ghosts as ReadOf}
use Rattle.dd_faults.specs.declared.refusal.ProgramFault.{ProgramFault}
use Rattle.dd_faults.specs.declared.refusal.ProgramFault.TheVariants.{Absent, BadName, BadStage, Changed, Create, Dir}
use Rattle.dd_faults.specs.declared.refusal.ProgramFault.TheVariants.{Folder, ListTooLarge, Memory, Own, Plan, SetId}
use Rattle.dd_faults.specs.declared.refusal.ProgramFault.TheVariants.{Strict, TooLong, Uid, Unread, Unsent}
use Rattle.dd_faults.specs.declared.refusal.Refusal.{Refusal}
use Rattle.dd_faults.specs.declared.refusal.Subject.{Subject}
use Rattle.dd_faults.specs.Reasons.{IsDue, IsOfEngine}

-- evidence for a fault of an engine
module _ {R : Type 0} (reads : ReadOf R) (refusals failures : ℕ) (strict : Bool) where
  pub engine_due : (fault : ProgramFault) → IsOfEngine fault → IsDue reads refusals failures strict fault
  engine_due (Plan fault) is = tt
  engine_due TooLong is = tt
  engine_due ListTooLarge is = tt
  engine_due (BadStage item) is = tt
  engine_due (Dir fault) is = tt
  engine_due (Own fault) is = tt
  engine_due Memory is = tt
  engine_due (Uid bad) is = absurd is
  engine_due (SetId bad) is = absurd is
  engine_due Absent is = absurd is
  engine_due Unread is = absurd is
  engine_due Create is = absurd is
  engine_due Folder is = absurd is
  engine_due Unsent is = absurd is
  engine_due Changed is = absurd is
  engine_due Strict is = absurd is
  engine_due (BadName number) is = absurd is

-- evidence for a fault is evidence for the refusal that has it
pub due_of : {R : Type 0} (reads : ReadOf R) (refusals failures : ℕ) (strict : Bool) (refusal : Refusal)
    (subject : Subject) (fault : ProgramFault) → refusal ≡ record { subject = subject; fault = fault }
    → IsDue reads refusals failures strict fault → IsDue reads refusals failures strict refusal.fault
due_of reads refusals failures strict refusal subject fault is due =
    subst (λ (one : Refusal). IsDue reads refusals failures strict one.fault) (sym is) due
