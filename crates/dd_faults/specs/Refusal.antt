-- Why a run is refused: which faults are the command line's, and which paths are concerned.
use Rattle.std.specs.Prelude.{◌≡◌, ◌⊎◌, ◌<◌, ℕ}
use Rattle.dd_elem.specs.declared.set_id.BadSetId.{BadSetId}
use Rattle.dd_elem.specs.declared.uid.BadUid.{BadUid}
use Rattle.dd_faults.specs.declared.refusal.ProgramFault.{ProgramFault}
use Rattle.dd_faults.specs.declared.refusal.Subject.{Subject}
use Rattle.dd_faults.specs.declared.refusal.Subject.TheVariants as subject
use Rattle.dd_faults.specs.declared.refusal.Refusal.{Refusal}
use Rattle.dd_faults.specs.declared.refusal.ProgramFault.TheVariants.{Memory, SetId, Strict, Uid}

-- the command line is at fault
abbrev pub IsBadLine : ProgramFault → Type 0
IsBadLine fault = ((bad : BadUid) × (fault ≡ Uid bad)) ⊎ ((bad : BadSetId) × (fault ≡ SetId bad))

-- an allocation was refused, which concerns no file
abbrev pub IsMemory : Refusal → Type 0
IsMemory refusal = refusal ≡ record { subject = subject.General; fault = Memory }

-- a line SKIP or NOTE was printed in a run with `--strict`, which concerns no file
abbrev pub IsStrict : Refusal → Type 0
IsStrict refusal = refusal ≡ record { subject = subject.General; fault = Strict }

-- a path that is concerned is one of these
abbrev pub IsAmong : ℕ → Subject → Type 0
IsAmong paths subject.General = Unit {0}
IsAmong paths (subject.Source at) = at < paths
IsAmong paths (subject.SetDirectory at) = at < paths
IsAmong paths (subject.SetFile at file) = at < paths
IsAmong paths (subject.PileFile at file) = at < paths
IsAmong paths subject.Folder = Unit {0}
IsAmong paths (subject.InPile file) = Unit {0}
IsAmong paths subject.Directory = Unit {0}
IsAmong paths (subject.Image file) = Unit {0}
IsAmong paths (subject.ImageFolder file) = Unit {0}
IsAmong paths subject.List = Unit {0}
IsAmong paths subject.Unstored = Unit {0}

-- it is the source of this number
abbrev pub IsSource : ℕ → Subject → Type 0
IsSource at named = named ≡ subject.Source at

-- it is a file in the folder of this number
abbrev pub IsSetFile : ℕ → Subject → Type 0
IsSetFile set subject.General = ⊥
IsSetFile set (subject.Source at) = ⊥
IsSetFile set (subject.SetDirectory at) = ⊥
IsSetFile set (subject.SetFile at file) = at ≡ set
IsSetFile set (subject.PileFile at file) = ⊥
IsSetFile set subject.Folder = ⊥
IsSetFile set (subject.InPile file) = ⊥
IsSetFile set subject.Directory = ⊥
IsSetFile set (subject.Image file) = ⊥
IsSetFile set (subject.ImageFolder file) = ⊥
IsSetFile set subject.List = ⊥
IsSetFile set subject.Unstored = ⊥

-- it is a file in the pile of this number
abbrev pub IsPileFile : ℕ → Subject → Type 0
IsPileFile pile subject.General = ⊥
IsPileFile pile (subject.Source at) = ⊥
IsPileFile pile (subject.SetDirectory at) = ⊥
IsPileFile pile (subject.SetFile at file) = ⊥
IsPileFile pile (subject.PileFile at file) = at ≡ pile
IsPileFile pile subject.Folder = ⊥
IsPileFile pile (subject.InPile file) = ⊥
IsPileFile pile subject.Directory = ⊥
IsPileFile pile (subject.Image file) = ⊥
IsPileFile pile (subject.ImageFolder file) = ⊥
IsPileFile pile subject.List = ⊥
IsPileFile pile subject.Unstored = ⊥

-- why a run with these paths is refused when the command line is not at fault
pub record IsOfWork (paths : ℕ) (refusal : Refusal) : Type 0 where
  pub named : IsAmong paths refusal.subject
  pub line : ¬ IsBadLine refusal.fault
