-- What an index of sources answers, together with its notes on these sources.
use Rattle.std.specs.Prelude.{◌≡◌, ◌<◌, ℕ, List, length, Option, None, Result, Ok, Err}
use Rattle.dd_layout.specs.Limits.{Limits}
use Rattle.dd_engine.specs.declared.choice.Choice.{Choice}
use Rattle.dd_engine.specs.declared.engine.Indexed.{Indexed}
use Rattle.dd_sources.specs.declared.engine_fault.EngineFault.{EngineFault}
use Rattle.dd_sources.specs.declared.engine_fault.EngineFault.TheVariants.{Memory, Absent, Unread, Plan}
use Rattle.dd_engine.specs.declared.noted_index.NotedIndex.{NotedIndex}
use Rattle.dd_engine.specs.declared.notes.ConflictingFiles.{ConflictingFiles}
use Rattle.dd_engine.specs.declared.notes.LeftOut.{LeftOut}
use Rattle.dd_engine.specs.declared.notes.NotedFault.{NotedFault}
use Rattle.dd_engine.specs.Indexed.{Indexes, IsIndexed}
use Rattle.dd_keys.specs.Sources.{Answer}
use Rattle.dd_sources.specs.Indexing.{accepted, best_of_sources, versions_of}
use Rattle.dd_engine.specs.Noting.{AreLeftOut, IsConflictOf, IsFound}
use Rattle.dd_engine.specs.PatientNames.{AreNamed, NamedPatient, with_kept_digest}
use Rattle.dd_sources.specs.Supply.{AreAnswers}

-- the answer without its notes
abbrev pub unnoted : Result NotedIndex (NotedFault EngineFault ℕ) → Result Indexed EngineFault
unnoted (Ok noted) = Ok noted.indexed
unnoted (Err noted) = Err noted.fault

-- ---- the answer, where each source was read with one of these results

-- the notes name the sources that are left out: of the instance of each, a version with other bytes is kept
abbrev pub LeavesOut : List Answer → List (LeftOut ℕ) → Type 0
LeavesOut answers notes = AreLeftOut (λ at. at) (best_of_sources (accepted answers)) (accepted answers) notes

-- the notes name the patients with more than one name in the versions that have the digest of the kept one
abbrev pub NamesPatients : List Answer → List NamedPatient → Type 0
NamesPatients answers patients =
    AreNamed (with_kept_digest (best_of_sources (accepted answers)) (versions_of (accepted answers))) patients

-- where the plan is refused for two versions that conflict, the first source of each; None for any other fault
abbrev pub ConflictsIn : List Answer → EngineFault → Option (ConflictingFiles ℕ) → Type 0
ConflictsIn answers (Plan fault) conflict =
    IsConflictOf (λ at. at) (best_of_sources (accepted answers)) (accepted answers) fault conflict
ConflictsIn answers fault conflict = conflict ≡ None

-- where the plan is refused for two versions that conflict, a source of each is named
abbrev pub FindsBoth : EngineFault → Option (ConflictingFiles ℕ) → Type 0
FindsBoth (Plan fault) conflict = IsFound fault conflict
FindsBoth fault conflict = Unit {0}

-- the index is refused, with a note of the two sources that conflict
abbrev pub IsRefused : Choice → Limits → List Answer → NotedFault EngineFault ℕ → Type 0
IsRefused choice limits answers noted =
    Indexes choice limits answers (Err noted.fault) × ConflictsIn answers noted.fault noted.conflict

-- the index answers this, with notes
abbrev pub NotesIndex : Choice → Limits → List Answer → Result NotedIndex (NotedFault EngineFault ℕ) → Type 0
NotesIndex choice limits answers (Ok noted) =
    IsIndexed choice limits answers noted.indexed × LeavesOut answers noted.notes.left_out.items
    × NamesPatients answers noted.notes.names.items
NotesIndex choice limits answers (Err noted) = IsRefused choice limits answers noted

-- ---- the answer for this number of sources, where `contents` gives the bytes of each source that are known

abbrev pub NotesFault : Choice → Limits → ℕ → (ℕ → Option (List ℕ)) → ℕ → EngineFault
    → Option (ConflictingFiles ℕ) → Type 0
NotesFault choice limits limit contents sources (Absent at) conflict = (at < sources) × (conflict ≡ None)
NotesFault choice limits limit contents sources (Unread at) conflict = (at < sources) × (conflict ≡ None)
NotesFault choice limits limit contents sources Memory conflict = conflict ≡ None
NotesFault choice limits limit contents sources (Plan fault) conflict = (answers : List Answer)
    × (length answers ≡ sources) × AreAnswers limit contents answers
    × Indexes choice limits answers (Err (Plan fault)) × ConflictsIn answers (Plan fault) conflict

abbrev pub NotesSupply : Choice → Limits → ℕ → (ℕ → Option (List ℕ)) → ℕ
    → Result NotedIndex (NotedFault EngineFault ℕ) → Type 0
NotesSupply choice limits limit contents sources (Err noted) =
    NotesFault choice limits limit contents sources noted.fault noted.conflict
NotesSupply choice limits limit contents sources (Ok noted) = (answers : List Answer)
    × (length answers ≡ sources) × AreAnswers limit contents answers × NotesIndex choice limits answers (Ok noted)
