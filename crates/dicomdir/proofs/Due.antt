-- Evidence for a fault of making a file-set, or of an engine, is evidence for it in a run.
use Rattle.std.proofs.Common.{ℕ, Bool}
use Rattle.dd_elem.specs.declared.device.Read.{Ghosts as ReadOf}
use Rattle.dd_file_set.specs.Reasons.{IsDueTo}
use Rattle.dd_faults.specs.declared.refusal.ProgramFault.{ProgramFault}
use Rattle.dd_faults.specs.declared.refusal.ProgramFault.TheVariants.{Absent, BadName, BadStage, Changed, Create, Dir}
use Rattle.dd_faults.specs.declared.refusal.ProgramFault.TheVariants.{Folder, ListTooLarge, Memory, Own, Plan, SetId}
use Rattle.dd_faults.specs.declared.refusal.ProgramFault.TheVariants.{Strict, TooLong, Uid, Unread, Unsent}
use Rattle.dd_faults.specs.Reasons.{IsDue}

module _ {R : Type 0} (reads : ReadOf R) (refusals failures : ℕ) (strict : Bool) where
  -- of making a file-set
  pub making_due : (fault : ProgramFault) → IsDueTo reads refusals failures fault
      → IsDue reads refusals failures strict fault
  making_due Absent due = due
  making_due Unread due = due
  making_due Create due = due
  making_due Folder due = due
  making_due Unsent due = due
  making_due Changed due = tt
  making_due Memory due = tt
  making_due (Plan fault) due = absurd due
  making_due (Uid bad) due = absurd due
  making_due (SetId bad) due = absurd due
  making_due TooLong due = absurd due
  making_due ListTooLarge due = absurd due
  making_due (BadStage item) due = absurd due
  making_due (Dir fault) due = absurd due
  making_due (Own fault) due = absurd due
  making_due Strict due = absurd due
  making_due (BadName number) due = absurd due
