-- What a refusal is of.
use Rattle.std.specs.Prelude.{◌≡◌, ◌⊎◌, ℕ}
use Rattle.dd_elem.specs.declared.device.Read.{Ghosts as ReadOf}
use Rattle.dd_files.specs.Reasons.{HasCounted, HasFailedReader}
use Rattle.dd_staged.specs.declared.source_fault.SourceFault.{SourceFault}
use Rattle.dd_staged.specs.declared.source_fault.SourceFault.TheVariants as skipped
use Rattle.dd_pile.specs.declared.refusal.StageRefusal.{StageRefusal}
use Rattle.dd_pile.specs.declared.refusal.StageRefusal.TheVariants.{Absent, CopyUnmade, CopyUnsent, FolderUnmade}
use Rattle.dd_pile.specs.declared.refusal.StageRefusal.TheVariants.{ListTooLarge, ListUnmade, ListUnsent, Memory}
use Rattle.dd_pile.specs.declared.refusal.StageRefusal.TheVariants.{PileUnmade, Unread, Unstored}

-- the refusal names a source of which this is so, or none
abbrev pub Names : (ℕ → Type 0) → StageRefusal → Type 0
Names Is (Absent at) = Is at
Names Is (Unread at) = Is at
Names Is (CopyUnmade at) = Is at
Names Is (FolderUnmade at) = Is at
Names Is (CopyUnsent at) = Is at
Names Is refusal = Unit {0}

-- it is of the copy of this source
abbrev pub IsOfCopy : ℕ → StageRefusal → Type 0
IsOfCopy at (Absent n) = n ≡ at
IsOfCopy at (Unread n) = n ≡ at
IsOfCopy at (CopyUnmade n) = n ≡ at
IsOfCopy at (FolderUnmade n) = n ≡ at
IsOfCopy at (CopyUnsent n) = n ≡ at
IsOfCopy at Memory = Unit {0}
IsOfCopy at Unstored = Unit {0}
IsOfCopy at refusal = ⊥

-- it is of the list
abbrev pub IsOfList : StageRefusal → Type 0
IsOfList ListTooLarge = Unit {0}
IsOfList ListUnmade = Unit {0}
IsOfList ListUnsent = Unit {0}
IsOfList Memory = Unit {0}
IsOfList refusal = ⊥

-- The evidence for a refusal: the files have refused a call, a read of one of their readers has failed, or a write to
-- them.
abbrev pub IsDueTo : {R : Type 0} → ReadOf R → ℕ → ℕ → StageRefusal → Type 0
IsDueTo reads refusals failures (Absent at) = HasCounted refusals
IsDueTo reads refusals failures (Unread at) = HasFailedReader reads
IsDueTo reads refusals failures (CopyUnmade at) = HasCounted refusals
IsDueTo reads refusals failures (FolderUnmade at) = HasCounted refusals
IsDueTo reads refusals failures (CopyUnsent at) = HasCounted refusals ⊎ HasCounted failures
IsDueTo reads refusals failures PileUnmade = HasCounted refusals
IsDueTo reads refusals failures ListUnmade = HasCounted refusals
IsDueTo reads refusals failures ListUnsent = HasCounted refusals ⊎ HasCounted failures
IsDueTo reads refusals failures Unstored = HasCounted refusals
IsDueTo reads refusals failures ListTooLarge = Unit {0}
IsDueTo reads refusals failures Memory = Unit {0}

-- the evidence for a source that is listed and was not read
abbrev pub IsSkippedBy : {R : Type 0} → ReadOf R → ℕ → SourceFault → Type 0
IsSkippedBy reads refusals skipped.Absent = HasCounted refusals
IsSkippedBy reads refusals skipped.Unread = HasFailedReader reads
IsSkippedBy reads refusals fault = Unit {0}
