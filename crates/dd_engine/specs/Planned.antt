-- What is planned of versions that each have an origin, where these UIDs are withdrawn, and what is noted of them.
use Rattle.std.specs.Prelude.{◌≡◌, ◌≢◌, ◌⊎◌, List, [], map, Option, None, Some}
use Rattle.std.specs.List.{zip}
use Rattle.dd_catalogue.specs.Changes.{with_changes}
use Rattle.dd_catalogue.specs.Conflicts.{first_conflict}
use Rattle.dd_catalogue.specs.Contents.{kept_of}
use Rattle.dd_catalogue.specs.Harmony.{harmonised}
use Rattle.dd_version.specs.declared.parts.Parts.{Parts}
use Rattle.dd_layout.specs.declared.fault.PlanFault.{PlanFault}
use Rattle.dd_layout.specs.declared.fault.PlanFault.TheVariants.{Conflict, TooMany, TooLarge, Memory}
use Rattle.dd_layout.specs.Limits.{Limits}
use Rattle.dd_layout.specs.Layouts.{layout_of}
use Rattle.dd_layout.specs.Plans.{records_of}
use Rattle.dd_engine.specs.declared.basis.Basis.{Basis}
use Rattle.dd_engine.specs.declared.choice.Choice.{Choice}
use Rattle.dd_engine.specs.declared.findings.Findings.{Findings}
use Rattle.dd_engine.specs.declared.notes.ConflictingFiles.{ConflictingFiles}
use Rattle.dd_engine.specs.declared.planning.Planned.{Planned}
use Rattle.dd_engine.specs.Choosing.{label_for, refusal_for}
use Rattle.dd_engine.specs.Noting.{AreLeftOut, IsConflictOf}
use Rattle.dd_engine.specs.PatientNames.{AreNamed, with_kept_digest}
use Rattle.dd_engine.specs.Picking.{ArePicked, file_of, files_of, found}

-- the versions that a catalogue keeps
abbrev pub kept_in : {T : Type 0} → Basis T → List Parts
kept_in basis = kept_of basis.versions.items basis.withdrawn

-- each version with its origin
abbrev pub filed_as_given : {T : Type 0} → Basis T → List (T × Parts)
filed_as_given basis = zip basis.origins.items basis.versions.items

-- No two of the kept versions m conflict, and with these changes they are in harmony. Each has its first file, and
-- these are the notes.
pub record Finds {T : Type 0} (m : List Parts) (origins : List T) (versions : List Parts)
    (findings : Findings T) : Type 0 where
  pub none : first_conflict m ≡ None
  pub harmony : with_changes findings.changes m ≡ harmonised m
  pub files : map (λ file. Some file) findings.files.items
      ≡ map (λ version. found (files_of (zip origins versions)) (file_of version)) m
  pub left : AreLeftOut (λ at. at) m (zip origins versions) findings.notes.left_out.items
  pub names : AreNamed (with_kept_digest m versions) findings.notes.names.items

abbrev pub AreFindings : {T : Type 0} → Basis T → Findings T → Type 0
AreFindings basis findings = Finds (kept_in basis) basis.origins.items basis.versions.items findings

-- nothing is found: two kept versions conflict, or memory was refused
abbrev pub IsUnfound : {T : Type 0} → Basis T → PlanFault → Option (ConflictingFiles T) → Type 0
IsUnfound basis (Conflict one other) conflict = (first_conflict (kept_in basis) ≡ Some (one, other))
    × IsConflictOf (λ at. at) (kept_in basis) (filed_as_given basis) (Conflict one other) conflict
IsUnfound basis (TooMany level) conflict = ⊥
IsUnfound basis TooLarge conflict = ⊥
IsUnfound basis Memory conflict = (basis.versions.items ≢ []) × (conflict ≡ None)

-- the kept versions are laid out under the label that is asked for, each image has the first of its files, and these
-- are the notes
pub record IsPlanned {T : Type 0} (choice : Choice) (limits : Limits) (basis : Basis T) (planned : Planned T) : Type 0
  where
    pub plan : let m = kept_in basis in
        planned.plan ≡ layout_of (label_for choice m basis.withdrawn) m basis.withdrawn
    pub allowed : refusal_for choice limits (kept_in basis) basis.withdrawn ≡ None
    pub picks : let m = kept_in basis in ArePicked (files_of (filed_as_given basis)) (harmonised m)
        (records_of (label_for choice m basis.withdrawn) (harmonised m)) planned.picks.items
    pub left : AreLeftOut (λ at. at) (kept_in basis) (filed_as_given basis) planned.notes.left_out.items
    pub names : AreNamed (with_kept_digest (kept_in basis) basis.versions.items) planned.notes.names.items

-- the fault refuses their plan, with the first files of two versions that conflict
pub record IsRefusedFor {T : Type 0} (choice : Choice) (limits : Limits) (basis : Basis T) (fault : PlanFault)
    (conflict : Option (ConflictingFiles T)) : Type 0 where
  pub refused : refusal_for choice limits (kept_in basis) basis.withdrawn ≡ Some fault
  pub files : IsConflictOf (λ at. at) (kept_in basis) (filed_as_given basis) fault conflict

-- there is no plan: it is refused, or memory was
abbrev pub IsUnplanned : {T : Type 0} → Choice → Limits → Basis T → PlanFault → Option (ConflictingFiles T) → Type 0
IsUnplanned choice limits basis (Conflict one other) conflict =
    IsRefusedFor choice limits basis (Conflict one other) conflict
IsUnplanned choice limits basis (TooMany level) conflict = IsRefusedFor choice limits basis (TooMany level) conflict
IsUnplanned choice limits basis TooLarge conflict = IsRefusedFor choice limits basis TooLarge conflict
IsUnplanned choice limits basis Memory conflict =
    ((basis.versions.items ≢ []) ⊎ (basis.withdrawn ≢ [])) × (conflict ≡ None)
