-- Why a run is refused: the evidence that a fault has of its devices.
use Rattle.std.specs.Prelude.{◌≡◌, ◌⊎◌, ℕ, Bool, true}
use Rattle.dd_elem.specs.declared.device.Read.{Ghosts as ReadOf}
use Rattle.dd_faults.specs.declared.refusal.ProgramFault.{ProgramFault}
use Rattle.dd_faults.specs.declared.refusal.ProgramFault.TheVariants.{Absent, BadName, BadStage, Create, Dir}
use Rattle.dd_faults.specs.declared.refusal.ProgramFault.TheVariants.{Folder, ListTooLarge, Memory, Own, Plan, SetId}
use Rattle.dd_faults.specs.declared.refusal.ProgramFault.TheVariants.{Strict, TooLong, Uid, Unread, Unsent}
use Rattle.dd_files.specs.Reasons.{HasCounted, HasFailedReader}

-- The files have refused a call, a read of one of their readers has failed or a write to them, or the line is strict.
-- What an engine finds has its grounds in what was read.
abbrev pub IsDue : {R : Type 0} → ReadOf R → ℕ → ℕ → Bool → ProgramFault → Type 0
IsDue reads refusals failures strict Absent = HasCounted refusals
IsDue reads refusals failures strict Unread = HasFailedReader reads
IsDue reads refusals failures strict Create = HasCounted refusals
IsDue reads refusals failures strict Folder = HasCounted refusals
IsDue reads refusals failures strict Unsent = HasCounted refusals ⊎ HasCounted failures
IsDue reads refusals failures strict Strict = strict ≡ true
IsDue reads refusals failures strict (Uid bad) = ⊥
IsDue reads refusals failures strict (SetId bad) = ⊥
IsDue reads refusals failures strict (BadName number) = ⊥
IsDue reads refusals failures strict fault = Unit {0}

-- a fault of an engine, or a refused allocation, which have no evidence here
abbrev pub IsOfEngine : ProgramFault → Type 0
IsOfEngine (Plan fault) = Unit {0}
IsOfEngine TooLong = Unit {0}
IsOfEngine ListTooLarge = Unit {0}
IsOfEngine (BadStage item) = Unit {0}
IsOfEngine (Dir fault) = Unit {0}
IsOfEngine (Own fault) = Unit {0}
IsOfEngine Memory = Unit {0}
IsOfEngine fault = ⊥
