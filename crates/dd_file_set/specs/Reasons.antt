-- Why making a file-set is refused.
use Rattle.std.specs.Prelude.{◌⊎◌, ℕ}
use Rattle.dd_elem.specs.declared.device.Read.{Ghosts as ReadOf}
use Rattle.dd_files.specs.Reasons.{HasCounted, HasFailedReader}
use Rattle.dd_files.specs.declared.files.LinkFault.{LinkFault}
use Rattle.dd_files.specs.declared.files.LinkFault.TheVariants as link
use Rattle.dd_faults.specs.declared.refusal.ProgramFault.{ProgramFault}
use Rattle.dd_faults.specs.declared.refusal.ProgramFault.TheVariants.{Absent, Changed, Create, Folder, Memory}
use Rattle.dd_faults.specs.declared.refusal.ProgramFault.TheVariants.{Unread, Unsent}

-- The evidence for a fault in making a file-set: the files have refused a call, a read of one of their readers has
-- failed, or a write to them.
abbrev pub IsDueTo : {R : Type 0} → ReadOf R → ℕ → ℕ → ProgramFault → Type 0
IsDueTo reads refusals failures Absent = HasCounted refusals
IsDueTo reads refusals failures Unread = HasFailedReader reads
IsDueTo reads refusals failures Create = HasCounted refusals
IsDueTo reads refusals failures Folder = HasCounted refusals
IsDueTo reads refusals failures Unsent = HasCounted refusals ⊎ HasCounted failures
IsDueTo reads refusals failures Changed = Unit {0}
IsDueTo reads refusals failures Memory = Unit {0}
IsDueTo reads refusals failures fault = ⊥

-- the evidence for a fault of a hard link: without a link, an image may still get a copy
abbrev pub IsLinkDueTo : ℕ → LinkFault → Type 0
IsLinkDueTo refusals link.Absent = HasCounted refusals
IsLinkDueTo refusals link.Changed = Unit {0}
IsLinkDueTo refusals link.Taken = HasCounted refusals
IsLinkDueTo refusals link.Refused = Unit {0}
