-- What a merge of directories answers, together with its notes on them and on the files that they list.
use Rattle.std.specs.Prelude.{◌≡◌, ℕ, List, Option, None, Result, Ok, Err}
use Rattle.dd_walk.specs.Reading.{Refuses}
use Rattle.dd_layout.specs.Limits.{Limits}
use Rattle.dd_engine.specs.declared.choice.Choice.{Choice}
use Rattle.dd_engine.specs.declared.merge.Merged.{Merged}
use Rattle.dd_engine.specs.declared.merge.Pick.{Pick}
use Rattle.dd_engine.specs.declared.merge_fault.MergeFault.{MergeFault}
use Rattle.dd_engine.specs.declared.merge_fault.MergeFault.TheVariants.{Dir, Own, Plan, Memory}
use Rattle.dd_engine.specs.declared.noted_merge.NotedMerge.{NotedMerge}
use Rattle.dd_engine.specs.declared.notes.ConflictingFiles.{ConflictingFiles}
use Rattle.dd_engine.specs.declared.notes.LeftOut.{LeftOut}
use Rattle.dd_engine.specs.declared.notes.NotedFault.{NotedFault}
use Rattle.dd_engine.specs.Merging.{AreOwn, IsFirst, IsForeign, IsGiven, IsMerged, SetListing, filed_in, held_in}
use Rattle.dd_engine.specs.Merging.{numbered, pick_view, versions_in}
use Rattle.dd_engine.specs.MergeSteps.{MergesAs}
use Rattle.dd_engine.specs.Noting.{AreLeftOut, IsConflictOf, IsFound}
use Rattle.dd_engine.specs.PatientNames.{AreNamed, NamedPatient, with_kept_digest}
use Rattle.dd_engine.specs.SetNotes.{AreSetNotes}

-- the answer without its notes
abbrev pub unnoted : Result NotedMerge (NotedFault MergeFault Pick) → Result Merged MergeFault
unnoted (Ok noted) = Ok noted.merged
unnoted (Err noted) = Err noted.fault

-- ---- the answer, where the sets list this, and the given UIDs are withdrawn as well

-- the notes name the files that are left out: of the instance of each, a version with other bytes is kept
abbrev pub LeavesOut : List (List ℕ) → List SetListing → List (LeftOut Pick) → Type 0
LeavesOut given listings notes =
    AreLeftOut (λ pick. pick_view pick) (held_in given listings).versions (filed_in listings) notes

-- where the plan is refused for two versions that conflict, the first file of each; None for any other fault
abbrev pub ConflictsIn : List (List ℕ) → List SetListing → MergeFault → Option (ConflictingFiles Pick) → Type 0
ConflictsIn given listings (Plan fault) conflict =
    IsConflictOf (λ pick. pick_view pick) (held_in given listings).versions (filed_in listings) fault conflict
ConflictsIn given listings fault conflict = conflict ≡ None

-- where the plan is refused for two versions that conflict, a file of each is named
abbrev pub FindsBoth : MergeFault → Option (ConflictingFiles Pick) → Type 0
FindsBoth (Plan fault) conflict = IsFound fault conflict
FindsBoth fault conflict = Unit {0}

-- the notes name the patients with more than one name in the versions that have the digest of the kept one
abbrev pub NamesPatients : List (List ℕ) → List SetListing → List NamedPatient → Type 0
NamesPatients given listings patients =
    AreNamed (with_kept_digest (held_in given listings).versions (versions_in (numbered 0 listings))) patients

-- the merge answers this, with notes
abbrev pub NotesMerge : Choice → Limits → List (List ℕ) → List SetListing
    → Result NotedMerge (NotedFault MergeFault Pick) → Type 0
NotesMerge choice limits given listings (Ok noted) =
    IsMerged choice limits given listings noted.merged × LeavesOut given listings noted.notes.left_out.items
    × NamesPatients given listings noted.notes.names.items × AreSetNotes given listings noted.sets
NotesMerge choice limits given listings (Err noted) =
    MergesAs choice limits given listings (Err noted.fault) × ConflictsIn given listings noted.fault noted.conflict

-- ---- the answer for sets with these bytes, where the given UIDs are withdrawn as well

abbrev pub NotesSetsFault : Choice → Limits → List (List ℕ) → List (List ℕ) → MergeFault
    → Option (ConflictingFiles Pick) → Type 0
NotesSetsFault choice limits given sets (Dir at fault) conflict =
    IsFirst (λ set. Refuses set fault) sets at × (conflict ≡ None)
NotesSetsFault choice limits given sets (Own at fault) conflict =
    IsFirst (λ set. IsForeign set fault) sets at × (conflict ≡ None)
NotesSetsFault choice limits given sets (Plan fault) conflict = (listings : List SetListing) × AreOwn sets listings
    × MergesAs choice limits given listings (Err (Plan fault)) × ConflictsIn given listings (Plan fault) conflict
NotesSetsFault choice limits given sets Memory conflict = IsGiven given sets × (conflict ≡ None)

abbrev pub NotesSets : Choice → Limits → List (List ℕ) → List (List ℕ)
    → Result NotedMerge (NotedFault MergeFault Pick) → Type 0
NotesSets choice limits given sets (Ok noted) = (listings : List SetListing) × AreOwn sets listings
    × NotesMerge choice limits given listings (Ok noted)
NotesSets choice limits given sets (Err noted) = NotesSetsFault choice limits given sets noted.fault noted.conflict
