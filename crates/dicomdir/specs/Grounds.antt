-- What a fault rests on that is of what was read: of sources, file-sets or piles, or of the files of picks.
use Rattle.std.specs.Prelude.{◌≡◌, ◌∷◌, ℕ, Bool, false, true, List, [], Option, Err, None}
use Rattle.std.specs.Prelude.{Ok, slice_index_or, string_bytes}
use Rattle.clap.specs.Words.{Text}
use Rattle.dd_walk.specs.Reading.{Refuses}
use Rattle.dd_engine.specs.Indexed.{Indexes, IsIndexed}
use Rattle.dd_engine.specs.IndexNotes.{NotesIndex}
use Rattle.dd_engine.specs.MergeNotes.{NotesSets}
use Rattle.dd_engine.specs.Merging.{AreOwn, IsFirst, IsForeign, IsMerged, SetListing}
use Rattle.dd_engine.specs.MergeSteps.{MergesAs}
use Rattle.dd_sources.specs.Readings.{Reading, answers_of}
use Rattle.dd_engine.specs.declared.choice.Choice.{Choice}
use Rattle.dd_engine.specs.declared.engine.Indexed.{Indexed}
use Rattle.dd_sources.specs.declared.engine_fault.EngineFault.{EngineFault}
use Rattle.dd_sources.specs.declared.engine_fault.EngineFault.TheVariants as engine
use Rattle.dd_engine.specs.declared.merge.Merged.{Merged}
use Rattle.dd_engine.specs.declared.noted_index.NotedIndex.{NotedIndex}
use Rattle.dd_engine.specs.declared.noted_merge.NotedMerge.{NotedMerge}
use Rattle.dd_engine.specs.declared.merge_fault.MergeFault.TheVariants as merging
use Rattle.dd_file_set.specs.Changed.{HasUnfitPick}
use Rattle.dd_faults.specs.Refusal.{IsPileFile}
use Rattle.dd_file_set.specs.Standing.{picked_rows}
use Rattle.dd_faults.specs.declared.refusal.ProgramFault.{ProgramFault}
use Rattle.dd_faults.specs.declared.refusal.ProgramFault.TheVariants.{Absent, BadStage, Dir, ListTooLarge, Memory}
use Rattle.dd_faults.specs.declared.refusal.ProgramFault.TheVariants.{Own, Plan, TooLong, Unread}
use Rattle.dd_faults.specs.declared.refusal.Refusal.{Refusal}
use Rattle.dd_faults.specs.declared.refusal.Subject.{Subject}
use Rattle.dd_faults.specs.declared.refusal.Subject.TheVariants as subjects
use Rattle.dd_files.specs.Files.{Held}
use Rattle.dd_line.specs.Line.{words_of}
use Rattle.dd_line.specs.Requests.{keeps_going, read_of}
use Rattle.dd_line.specs.declared.request.Request.{Request}
use Rattle.dd_line.specs.declared.request.Request.TheVariants.{Check, Index, List as ListSet, Merge, Publish, Stage}
use Rattle.dd_line.specs.declared.request.Request.TheVariants.{Withdraw}
use Rattle.dd_version.specs.declared.parts.Parts.{Parts}
use Rattle.dd_layout.specs.Layouts.{Layout}
use Rattle.dd_layout.specs.declared.fault.PlanFault.{PlanFault}
use Rattle.dd_pile.specs.Lists.{IfList}
use Rattle.dd_pile.specs.Piles.{HasNoRoom}
use Rattle.dd_pile.specs.declared.source.StageSource.{StageSource}
use Rattle.dd_staged.specs.Refusals.{IsBadStage}
use Rattle.dd_staged.specs.Sources.{Source}
use Rattle.dd_inputs.specs.From.{from_text}
use Rattle.dicomdir.specs.Indexes.{AreRead, NoneFailed, limits_of}
use Rattle.dd_inputs.specs.ListedNames.{AreSources, list_of}
use Rattle.dicomdir.specs.Merges.{AreDirectories}
use Rattle.dicomdir.specs.Noted.{IsNoted, IsNotedIndex}
use Rattle.dicomdir.specs.Origins.{IsMemberPath, IsPathAt}
use Rattle.dicomdir.specs.Publishes.{AreLists, IsCopyOf, MayLinkCopy, answers_in, said_in}
use Rattle.dicomdir.specs.Stages.{AreNamed}
use Rattle.dd_faults.specs.Grounds.{GroundsOfMaking, NeedsNoGrounds}
use Rattle.dd_files.specs.ReadToEnd.{IsTooLong}
use Rattle.dd_inspecting.specs.Directories.{HasSuchDirectory}
use Rattle.dd_inspecting.specs.Grounds.{GroundsOfCheck, GroundsOfList}

-- ---- faults

-- ---- files that are read whole

-- the image of one of these picks can't be made of the bytes that its file has
abbrev pub HasUnfitImage : {P : Type 0} → (P → List ℕ → Type 0) → (P → List ℕ → Type 0) → (P → Option Parts) → Type 0
    → Layout → List P → Option Held → Type 0
HasUnfitImage From MayLink said GivesLinks plan picks files =
    HasUnfitPick From MayLink said GivesLinks plan.versions (picked_rows plan picks) files

-- the subject is the source of this number, and this is so of its path
pub record IsOfOne (paths : List (List ℕ)) (subject : Subject) (Is : List ℕ → Type 0) : Type 0 where
  pub at : ℕ
  pub named : subject ≡ subjects.Source at
  pub is : Is (slice_index_or paths at [])

-- ---- `index`

-- what was read of the sources of these names has no plan, for this fault
pub record HaveNoPlan (keeps_going : Bool) (choice : Choice) (bytes : ℕ) (names : List (List ℕ)) (files : Option Held)
    (fault : PlanFault) : Type 0 where
  pub readings : List Reading
  pub read : AreRead names files readings
  pub all : keeps_going ≡ false → NoneFailed readings
  pub refuses : Indexes choice (limits_of bytes) (answers_of readings) (Err (engine.Plan fault))

-- what was read of the sources of these names was planned, and the file of a pick has changed
pub record HasChangedSource (keeps_going : Bool) (choice : Choice) (bytes : ℕ) (names : List (List ℕ))
    (old new : Option Held) : Type 0 where
  pub readings : List Reading
  pub read : AreRead names old readings
  pub all : keeps_going ≡ false → NoneFailed readings
  pub indexed : Indexed
  pub is : IsIndexed choice (limits_of bytes) (answers_of readings) indexed
  pub changed : HasUnfitImage (IsPathAt names) (λ _ _. ⊥) (λ _. None) ⊥ indexed.plan indexed.picks.items new

-- there is a note on what was read of them
pub record HasNotedSources (keeps_going : Bool) (choice : Choice) (bytes : ℕ) (names : List (List ℕ))
    (files : Option Held) : Type 0 where
  pub readings : List Reading
  pub read : AreRead names files readings
  pub all : keeps_going ≡ false → NoneFailed readings
  pub noted : NotedIndex
  pub notes : NotesIndex choice (limits_of bytes) (answers_of readings) (Ok noted)
  pub is : IsNotedIndex noted

-- the fault of a run that an engine refuses with this one
abbrev pub run_fault : EngineFault → ProgramFault
run_fault engine.Memory = Memory
run_fault (engine.Absent at) = Absent
run_fault (engine.Unread at) = Unread
run_fault (engine.Plan fault) = Plan fault

-- the grounds of a fault of `index`
abbrev pub GroundsOfIndex : Bool → Choice → ℕ → List (List ℕ) → Option Held → Option Held → ProgramFault → Type 0
GroundsOfIndex keeps_going choice bytes names old new (Plan fault) =
    HaveNoPlan keeps_going choice bytes names old fault
GroundsOfIndex keeps_going choice bytes names old new fault =
    GroundsOfMaking (HasChangedSource keeps_going choice bytes names old new)
    (HasNotedSources keeps_going choice bytes names old) fault

-- ---- `merge` and `withdraw`

-- the subject is the first of the file-sets in these folders of whose directory this is so
pub record IsFirstSet (Is : List ℕ → Type 0) (folders : List (List ℕ)) (files : Option Held) (subject : Subject)
    : Type 0 where
  pub sets : List (List ℕ)
  pub are : AreDirectories folders sets files
  pub at : ℕ
  pub named : subject ≡ subjects.Source at
  pub first : IsFirst Is sets at

-- what the directories in these folders list, without what they withdraw and the given UIDs, has no plan
pub record SetsHaveNoPlan (choice : Choice) (bytes : ℕ) (given folders : List (List ℕ)) (files : Option Held)
    (fault : PlanFault) : Type 0 where
  pub sets : List (List ℕ)
  pub are : AreDirectories folders sets files
  pub listings : List SetListing
  pub own : AreOwn sets listings
  pub refuses : MergesAs choice (limits_of bytes) given listings (Err (merging.Plan fault))

-- what they list was planned, and the file of a pick has changed
pub record HasChangedMember (choice : Choice) (bytes : ℕ) (given folders : List (List ℕ)) (GivesLinks : Type 0)
    (old new : Option Held) : Type 0 where
  pub sets : List (List ℕ)
  pub are : AreDirectories folders sets old
  pub listings : List SetListing
  pub own : AreOwn sets listings
  pub merged : Merged
  pub is : IsMerged choice (limits_of bytes) given listings merged
  pub changed : HasUnfitImage (IsMemberPath folders) (λ _ _. GivesLinks)
      (λ _. None) GivesLinks merged.plan merged.picks.items new

-- there is a note on what they list
pub record HasNotedSets (choice : Choice) (bytes : ℕ) (given folders : List (List ℕ)) (files : Option Held)
    : Type 0 where
  pub sets : List (List ℕ)
  pub are : AreDirectories folders sets files
  pub noted : NotedMerge
  pub notes : NotesSets choice (limits_of bytes) given sets (Ok noted)
  pub is : IsNoted noted

-- the grounds of a fault of `merge` or `withdraw`, and of its subject, where images get hard links or not
abbrev pub GroundsOfSets : Choice → ℕ → List (List ℕ) → List (List ℕ) → Bool → Option Held → Option Held → Subject
    → ProgramFault → Type 0
GroundsOfSets choice bytes given folders links old new subject (Plan fault) =
    SetsHaveNoPlan choice bytes given folders old fault
GroundsOfSets choice bytes given folders links old new subject (Dir fault) =
    IsFirstSet (λ set. Refuses set fault) folders old subject
GroundsOfSets choice bytes given folders links old new subject (Own fault) =
    IsFirstSet (λ set. IsForeign set fault) folders old subject
GroundsOfSets choice bytes given folders links old new subject TooLong =
    IsOfOne folders subject (λ folder. HasSuchDirectory folder IsTooLong old)
GroundsOfSets choice bytes given folders links old new subject fault =
    GroundsOfMaking (HasChangedMember choice bytes given folders (links ≡ true) old new)
    (HasNotedSets choice bytes given folders old) fault

-- ---- `check` and `list`

-- ---- `publish` and `stage`

-- what the lists of these piles say has no plan
pub record PilesHaveNoPlan (choice : Choice) (bytes : ℕ) (piles : List (List ℕ)) (files : Option Held)
    (fault : PlanFault) : Type 0 where
  pub lists : List (List Source)
  pub are : AreLists piles lists files
  pub refuses : Indexes choice (limits_of bytes) (answers_in lists) (Err (engine.Plan fault))

-- what they say was planned, and the copy of a pick has changed
pub record HasChangedCopy (choice : Choice) (bytes : ℕ) (piles : List (List ℕ)) (GivesLinks : Type 0)
    (old new : Option Held) : Type 0 where
  pub lists : List (List Source)
  pub are : AreLists piles lists old
  pub indexed : Indexed
  pub is : IsIndexed choice (limits_of bytes) (answers_in lists) indexed
  pub changed : HasUnfitImage (IsCopyOf piles lists) (MayLinkCopy GivesLinks lists)
      (said_in lists) GivesLinks indexed.plan
      indexed.picks.items new

-- there is a note on what they say
pub record HasNotedPiles (choice : Choice) (bytes : ℕ) (piles : List (List ℕ)) (files : Option Held) : Type 0 where
  pub lists : List (List Source)
  pub are : AreLists piles lists files
  pub noted : NotedIndex
  pub notes : NotesIndex choice (limits_of bytes) (answers_in lists) (Ok noted)
  pub is : IsNotedIndex noted

-- the subject is a file of the pile of this number, whose list is too long
pub record HasTooLongList (piles : List (List ℕ)) (files : Option Held) (subject : Subject) : Type 0 where
  pub at : ℕ
  pub named : IsPileFile at subject
  pub long : IfList (slice_index_or piles at []) IsTooLong files

-- the grounds of a fault of `publish`, and of its subject, where images get hard links or not
abbrev pub GroundsOfPiles : Choice → ℕ → List (List ℕ) → Bool → Option Held → Option Held → Subject → ProgramFault
    → Type 0
GroundsOfPiles choice bytes piles links old new subject (Plan fault) = PilesHaveNoPlan choice bytes piles old fault
GroundsOfPiles choice bytes piles links old new subject (BadStage item) =
    IsOfOne piles subject (λ pile. IfList pile (IsBadStage item) old)
GroundsOfPiles choice bytes piles links old new subject TooLong = HasTooLongList piles old subject
GroundsOfPiles choice bytes piles links old new subject fault =
    GroundsOfMaking (HasChangedCopy choice bytes piles (links ≡ true) old new)
    (HasNotedPiles choice bytes piles old) fault

-- a pile of the files at the sources of these names has no list, since that would be too large
pub record HasNoList (from pile : List ℕ) (names : List (List ℕ)) (old new : Option Held) : Type 0 where
  pub sources : List StageSource
  pub bad : List ℕ
  pub are : AreNamed from names bad sources
  pub large : HasNoRoom pile sources old new

-- the grounds of a fault of `stage`
abbrev pub GroundsOfStage : List ℕ → List ℕ → List (List ℕ) → Option Held → Option Held → ProgramFault → Type 0
GroundsOfStage from pile names old new ListTooLarge = HasNoList from pile names old new
GroundsOfStage from pile names old new fault = NeedsNoGrounds fault

-- ---- any command

-- the grounds of a refusal of a request that reads these sources, under this label and without these instances
abbrev pub GroundsOf : Request → Choice → List Text → List Text → Option Held → Option Held → Refusal → Type 0
GroundsOf (Index x) choice withdrawn names old new refusal =
    GroundsOfIndex x.keep_going choice x.new_set.max_bytes names old new refusal.fault
GroundsOf (Merge x) choice withdrawn names old new refusal =
    GroundsOfSets choice x.new_set.max_bytes [] names x.link old new refusal.subject refusal.fault
GroundsOf (Withdraw x) choice withdrawn names old new refusal =
    GroundsOfSets choice x.new_set.max_bytes withdrawn (string_bytes x.set ∷ []) false old new refusal.subject
    refusal.fault
GroundsOf (Stage x) choice withdrawn names old new refusal =
    GroundsOfStage (from_text x.from) (string_bytes x.pile) names old new refusal.fault
GroundsOf (Publish x) choice withdrawn names old new refusal =
    GroundsOfPiles choice x.new_set.max_bytes names x.link old new refusal.subject refusal.fault
GroundsOf (Check x) choice withdrawn names old new refusal = GroundsOfCheck (string_bytes x.set) old refusal.fault
GroundsOf (ListSet x) choice withdrawn names old new refusal = GroundsOfList (string_bytes x.set) old refusal.fault

-- the same of the paths that it reads and, after them, the names of its list
pub record HasGrounds (r : Request) (choice : Choice) (withdrawn : List Text) (old new : Option Held)
    (refusal : Refusal) : Type 0 where
  pub names : List Text
  pub are : AreSources (keeps_going r) (list_of r) (words_of (read_of r)) old names
  pub grounds : GroundsOf r choice withdrawn names old new refusal
