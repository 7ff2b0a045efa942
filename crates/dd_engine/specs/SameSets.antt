-- When two merges of sets answer the same.
use Rattle.std.specs.Prelude.{◌≡◌, Result, Ok, Err}
use Rattle.dd_engine.specs.declared.merge.Merged.{Merged}
use Rattle.dd_engine.specs.declared.merge_fault.MergeFault.{MergeFault}
use Rattle.dd_engine.specs.declared.merge_fault.MergeFault.TheVariants.{Plan}
use Rattle.dd_engine.specs.SameVersions.{AreSamePlans}

-- two answers have the same plan, or the same refusal of a plan, unless a set is refused or memory ran out
abbrev pub MergesAgree : Result Merged MergeFault → Result Merged MergeFault → Type 0
MergesAgree (Ok one) (Ok other) = AreSamePlans one.plan other.plan
MergesAgree (Ok one) (Err (Plan fault)) = ⊥
MergesAgree (Err (Plan fault)) (Ok other) = ⊥
MergesAgree (Err (Plan fault)) (Err (Plan other)) = fault ≡ other
MergesAgree one other = Unit {0}
