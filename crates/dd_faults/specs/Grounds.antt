-- What a fault rests on once there is a plan.
use Rattle.dd_faults.specs.declared.refusal.ProgramFault.{ProgramFault}
use Rattle.dd_faults.specs.declared.refusal.ProgramFault.TheVariants.{BadStage, Changed, Dir}
use Rattle.dd_faults.specs.declared.refusal.ProgramFault.TheVariants.{ListTooLarge, Own, Plan}
use Rattle.dd_faults.specs.declared.refusal.ProgramFault.TheVariants.{Strict, TooLong}

-- The grounds of a fault once there is a plan: where a file is said to have changed, the first; where a line SKIP or NOTE
-- refuses a strict run, the second. No other needs any.
abbrev pub GroundsOfMaking : Type 0 → Type 0 → ProgramFault → Type 0
GroundsOfMaking HasChanged Noted Changed = HasChanged
GroundsOfMaking HasChanged Noted Strict = Noted
GroundsOfMaking HasChanged Noted (Plan fault) = ⊥
GroundsOfMaking HasChanged Noted TooLong = ⊥
GroundsOfMaking HasChanged Noted ListTooLarge = ⊥
GroundsOfMaking HasChanged Noted (BadStage item) = ⊥
GroundsOfMaking HasChanged Noted (Dir fault) = ⊥
GroundsOfMaking HasChanged Noted (Own fault) = ⊥
GroundsOfMaking HasChanged Noted fault = Unit {0}

-- a fault that is not of what was read
abbrev pub NeedsNoGrounds : ProgramFault → Type 0
NeedsNoGrounds = GroundsOfMaking ⊥ ⊥
