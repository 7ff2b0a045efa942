-- Why a run is refused: the evidence that each fault has.
use Rattle.dd_engine.specs.declared.merge_fault.MergeFault.{MergeFault}
use Rattle.dd_engine.specs.declared.merge_fault.MergeFault.TheVariants as merging
use Rattle.dd_faults.specs.declared.refusal.ProgramFault.TheVariants.{Dir}
use Rattle.dd_faults.specs.declared.refusal.ProgramFault.TheVariants.{Memory, Own, Plan}
use Rattle.dd_faults.specs.declared.refusal.Refusal.{Refusal}
use Rattle.dd_faults.specs.declared.refusal.Subject.TheVariants as subject

-- ---- in the work

-- the refusal of file-sets for a fault of a merge
abbrev pub set_refusal : MergeFault → Refusal
set_refusal (merging.Dir at fault) = record { subject = subject.Source at; fault = Dir fault }
set_refusal (merging.Own at fault) = record { subject = subject.Source at; fault = Own fault }
set_refusal (merging.Plan fault) = record { subject = subject.General; fault = Plan fault }
set_refusal merging.Memory = record { subject = subject.General; fault = Memory }
