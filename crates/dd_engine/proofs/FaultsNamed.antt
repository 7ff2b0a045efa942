-- The set that the fault of a merge names is one of those that were merged.
use Rattle.std.specs.Prelude.{ℕ, List, length, Err}
use Rattle.dd_layout.specs.Limits.{Limits}
use Rattle.dd_engine.specs.declared.choice.Choice.{Choice}
use Rattle.dd_engine.specs.declared.merge_fault.MergeFault.{MergeFault}
use Rattle.dd_engine.specs.declared.merge_fault.MergeFault.TheVariants.{Dir, Own, Plan, Memory}
use Rattle.dd_engine.specs.Merging.{IsNamedSet, Merges}

pub fault_at : (choice : Choice) (limits : Limits) (given sets : List (List ℕ)) (fault : MergeFault)
    → Merges choice limits given sets (Err fault) → IsNamedSet (length sets) fault
fault_at choice limits given sets (Dir at fault) merges = merges.below
fault_at choice limits given sets (Own at fault) merges = merges.below
fault_at choice limits given sets (Plan fault) merges = tt
fault_at choice limits given sets Memory merges = tt
