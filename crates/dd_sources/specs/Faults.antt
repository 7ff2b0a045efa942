-- Why an index was not made: the plan was refused, or reading the sources ended.
use Rattle.std.specs.Prelude.{ℕ}
use Rattle.dd_layout.specs.declared.fault.PlanFault.{PlanFault}
use Rattle.dd_layout.specs.declared.fault.PlanFault.TheVariants as plans
use Rattle.dd_sources.specs.declared.engine_fault.EngineFault.{EngineFault}
use Rattle.dd_sources.specs.declared.engine_fault.EngineFault.TheVariants.{Memory, Plan}
use Rattle.dd_sources.specs.Supply.{AllStay, EndsWith}

-- a refusal of a plan, in the words of an index
abbrev pub as_engine : PlanFault → EngineFault
as_engine plans.Memory = Memory
as_engine (plans.Conflict one other) = Plan (plans.Conflict one other)
as_engine (plans.TooMany level) = Plan (plans.TooMany level)
as_engine plans.TooLarge = Plan plans.TooLarge

-- Indexing `sources` sources ended with a fault. The refusals were `refusals` and are `refused`, and the failures of
-- their readers were `unread` and are `failed`. Where memory ran out, or the versions have no place in a directory, no
-- source failed.
abbrev pub FailsBy : EngineFault → ℕ → (ℕ → ℕ) → (ℕ → ℕ) → (ℕ → ℕ) → (ℕ → ℕ) → Type 0
FailsBy (Plan fault) sources refusals refused unread failed = AllStay refusals refused × AllStay unread failed
FailsBy fault sources refusals refused unread failed = EndsWith fault sources refusals refused unread failed
