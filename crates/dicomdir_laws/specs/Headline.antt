-- What the files say that a command reads, and what stands in OUT once it has made its file-set.
use Rattle.std.specs.Prelude.{◌≡◌, ◌≢◌, ◌↔◌, ◌⊎◌, ◌≤◌, ℕ, Bool, List, [], ◌∷◌, Contains, Some, Ok, false}
use Rattle.std.specs.Prelude.{if◌then◌else◌, length, map}
use Rattle.std.specs.Str.{IsUtf8}
use Rattle.clap.specs.Takes.{is_given}
use Rattle.clap.specs.Words.{Row, Text, first_of}
use Rattle.dd_catalogue.specs.Contents.{Contents, held_of}
use Rattle.dd_dir.specs.OwnVersions.{version_of}
use Rattle.dd_dir.specs.SaysItself.{SaysItself}
use Rattle.dd_dir.specs.Visits.{Realises}
use Rattle.dd_engine.specs.Choosing.{label_for}
use Rattle.dd_engine.specs.Merging.{IsOwn, SetListing}
use Rattle.dd_files.specs.Files.{Held}
use Rattle.dd_files.specs.Keeping.{KeepsAll}
use Rattle.dd_keys.specs.Versions.{IsVersion}
use Rattle.dd_line.specs.Line.{files0_from_name, given_for, instance_name, keep_going_name, out_name, pile_name}
use Rattle.dd_line.specs.Line.{set_name, source_name}
use Rattle.dd_line.specs.Requests.{IsOnly}
use Rattle.dd_line.specs.declared.line.Verb.{Verb}
use Rattle.dd_line.specs.declared.line.Verb.TheVariants.{Check, Index, List as ListSet, Merge, Publish, Stage, Withdraw}
use Rattle.dd_pile.specs.Lists.{HasList}
use Rattle.dd_pile.specs.declared.sum.StageSum.{StageSum}
use Rattle.dd_staged.specs.Sources.{Source, has_copy}
use Rattle.dd_staged.specs.Stages.{IsStage}
use Rattle.dd_version.specs.declared.parts.Parts.{Parts}
use Rattle.dicomdir.specs.Done.{IsDone}
use Rattle.dd_inputs.specs.From.{looked_up}
use Rattle.dicomdir.specs.Indexes.{most_of_source}
use Rattle.dicomdir.specs.Lines.{IndexesRows, MergesRows, PublishesRows, WithdrawsRows, choice_of, from_in, list_in}
use Rattle.dd_inputs.specs.ListedNames.{AreSources}
use Rattle.dd_inspecting.specs.Directories.{HasDirectory}
use Rattle.dicomdir.specs.Stages.{MakesNamed}

-- ---- what the files say

-- A file at one of these paths is a file of this version, and no longer than a source may be. A name that is not UTF-8
-- is no path.
pub record OneFileSays (names : List Text) (held : Held) (version : Parts) : Type 0 where
  pub name : Text
  pub among : Contains names name
  pub path : IsUtf8 name
  pub file : List ℕ
  pub there : held.bytes_at name ≡ Some file
  pub short : length file ≤ most_of_source
  pub right : IsVersion file version

-- the directory of a file-set in one of these folders says this of what it lists and withdraws (PS3.10 section 8.6)
pub record OneSetSays (folders : List Text) (held : Held) (Says : SetListing → Type 0) : Type 0 where
  pub folder : Text
  pub among : Contains folders folder
  pub bytes : List ℕ
  pub directory : HasDirectory folder bytes (Some held)
  pub listing : SetListing
  pub own : IsOwn bytes listing
  pub says : Says listing

-- it lists an image of this version, or withdraws this SOP Instance UID (PS3.3 section C.12.1)
abbrev pub Lists : Parts → SetListing → Type 0
Lists version listing = Contains (map version_of listing.images) version

abbrev pub Names : List ℕ → SetListing → Type 0
Names uid listing = Contains listing.withdrawn uid

-- the list of a pile in one of these folders says of a source that it has this version
pub record OneListSays (piles : List Text) (held : Held) (version : Parts) : Type 0 where
  pub pile : Text
  pub among : Contains piles pile
  pub sources : List Source
  pub list : HasList pile (λ bytes. IsStage bytes sources) held
  pub says : Contains (map (λ source. source.found) sources) (Ok version)

-- the sources that `index` is given, the folders that `merge` is given, and the piles that `publish` is given
abbrev pub AreGivenSources : List Row → Held → List Text → Type 0
AreGivenSources given held sources = AreSources (is_given keep_going_name given) (first_of files0_from_name given)
    (given_for source_name given) (Some held) sources

abbrev pub AreGivenFolders : List Row → Held → List Text → Type 0
AreGivenFolders given held folders =
    AreSources false (first_of files0_from_name given) (given_for set_name given) (Some held) folders

abbrev pub AreGivenPiles : List Row → Held → List Text → Type 0
AreGivenPiles given held piles = AreSources false (list_in given) (given_for pile_name given) (Some held) piles

-- what the command reads says that there is this version
abbrev pub SaysVersion : Verb → List Row → Held → Parts → Type 0
SaysVersion Index given held version =
    (names : List Text) × AreGivenSources given held names × OneFileSays names held version
SaysVersion Merge given held version =
    (folders : List Text) × AreGivenFolders given held folders × OneSetSays folders held (Lists version)
SaysVersion Withdraw given held version = OneSetSays (given_for set_name given) held (Lists version)
SaysVersion Publish given held version =
    (piles : List Text) × AreGivenPiles given held piles × OneListSays piles held version
SaysVersion Stage given held version = ⊥
SaysVersion Check given held version = ⊥
SaysVersion ListSet given held version = ⊥

-- this UID is withdrawn, by what it reads or by its words
abbrev pub Withdraws : Verb → List Row → Held → List ℕ → Type 0
Withdraws Index given held uid = ⊥
Withdraws Merge given held uid =
    (folders : List Text) × AreGivenFolders given held folders × OneSetSays folders held (Names uid)
Withdraws Withdraw given held uid =
    Contains (given_for instance_name given) uid ⊎ OneSetSays (given_for set_name given) held (Names uid)
Withdraws Publish given held uid = ⊥
Withdraws Stage given held uid = ⊥
Withdraws Check given held uid = ⊥
Withdraws ListSet given held uid = ⊥

-- ---- what stands in OUT

-- `index`, `merge` or `withdraw`, with these words, ended with 0, or `publish` ended with 0 or 3, and made what `run` says
-- of it
abbrev pub Makes : Verb → List Row → Held → Held → Type 0
Makes Index given old new = IndexesRows given 0 (Some old) (Some new)
Makes Merge given old new = MergesRows given (Some old) (Some new)
Makes Withdraw given old new = WithdrawsRows given (Some old) (Some new)
Makes Publish given old new = (status : ℕ) × IsDone status × PublishesRows given status (Some old) (Some new)
Makes Stage given old new = ⊥
Makes Check given old new = ⊥
Makes ListSet given old new = ⊥

-- where this folder is looked up: `publish` does so in the folder that its words give
abbrev pub folder_for : Verb → List Row → Text → Text
folder_for Publish given folder = looked_up (from_in given) folder
folder_for verb given folder = folder

-- OUT/DICOMDIR has these bytes
pub record LeavesDirectory (verb : Verb) (given : List Row) (bytes : List ℕ) (new : Held) : Type 0 where
  pub folder : Text
  pub out : IsOnly out_name given folder
  pub stands : HasDirectory (folder_for verb given folder) bytes (Some new)

-- two commands gave their file-sets one directory, byte for byte
abbrev pub LeaveOneDirectory : Verb → Verb → List Row → List Row → Held → Held → Type 0
LeaveOneDirectory verb other given others new last =
    (bytes : List ℕ) × LeavesDirectory verb given bytes new × LeavesDirectory other others bytes last

-- ---- what two commands have in common

-- what two commands read says the same versions and the same withdrawn UIDs
pub record SayTheSame (verb other : Verb) (given others : List Row) (old first : Held) : Type 0 where
  pub versions : (version : Parts) → SaysVersion verb given old version ↔ SaysVersion other others first version
  pub withdrawn : (uid : List ℕ) → Withdraws verb given old uid ↔ Withdraws other others first uid

-- Each set that `merge` is given, of which there is one at least, has the directory that another command left.
pub record MergesCopies (verb : Verb) (given others : List Row) (new first : Held) : Type 0 where
  pub bytes : List ℕ
  pub left : LeavesDirectory verb given bytes new
  pub folders : List Text
  pub are : AreGivenFolders others first folders
  pub some : folders ≢ []
  pub each : (folder : Text) → Contains folders folder → HasDirectory folder bytes (Some first)

-- those of these paths at which a source stands that the list of a pile says was read
abbrev pub paths_read : List Text → List Source → List Text
paths_read [] list = []
paths_read (path ∷ paths) [] = []
paths_read (path ∷ paths) (source ∷ list) =
    if has_copy source.found then path ∷ paths_read paths list else paths_read paths list

-- `stage` made this pile, and read the files at these paths for it, where the same bytes stand now. The pile is kept as it
-- was made.
pub record IsPileOf (pile : Text) (paths : List Text) (held now : Held) : Type 0 where
  pub keeps_going : Bool
  pub from : Text
  pub names : List Text
  pub sum : StageSum
  pub before : Held
  pub made : Held
  pub makes : MakesNamed keeps_going from pile names sum (Some before) (Some made)
  pub looked : paths ≡ paths_read (map (looked_up from) names) makes.makes.list
  pub kept : KeepsAll made held
  pub same : (path : Text) → Contains paths path → now.bytes_at path ≡ made.bytes_at path

-- The piles that `publish` is given were made of sources that `index` is given: all these were read for them, and no
-- others.
pub record PublishesSources (given others : List Row) (old first : Held) : Type 0 where
  pub piles : List Text
  pub are : AreGivenPiles given old piles
  pub sources : List Text
  pub are_sources : AreGivenSources others first sources
  pub utf8 : (source : Text) → Contains sources source → IsUtf8 source
  pub staged : Text → List Text
  pub each : (pile : Text) → Contains piles pile → IsPileOf pile (staged pile) old first
  pub all : (source : Text) → Contains sources source
      ↔ (pile : Text) × Contains piles pile × Contains (staged pile) source

-- a run of a command with these words, and what the files held before and after
pub record Run : Type 0 where
  pub verb : Verb
  pub given : List Row
  pub old : Held
  pub new : Held

-- the set in this folder has the directory that this run left, which withdrew nothing
pub record IsSetOf (run : Run) (folder : Text) (now : Held) : Type 0 where
  pub makes : Makes run.verb run.given run.old run.new
  pub none : (uid : List ℕ) → ¬ Withdraws run.verb run.given run.old uid
  pub bytes : List ℕ
  pub left : LeavesDirectory run.verb run.given bytes run.new
  pub stands : HasDirectory folder bytes (Some now)

-- the run that left the set in one of these folders read something that says this version
abbrev pub IsSaidBy : List Text → (Text → Run) → Parts → Type 0
IsSaidBy folders part version = (folder : Text) × Contains folders folder
    × SaysVersion (part folder).verb (part folder).given (part folder).old version

-- The sets that `merge` is given have the directories that runs over parts left. Another command reads the whole: it
-- finds the versions that the parts find together, one of each instance at most, and withdraws nothing.
pub record MergesParts (verb : Verb) (given others : List Row) (old first : Held) : Type 0 where
  pub folders : List Text
  pub are : AreGivenFolders others first folders
  pub part : Text → Run
  pub each : (folder : Text) → Contains folders folder → IsSetOf (part folder) folder first
  pub all : (version : Parts) → SaysVersion verb given old version ↔ IsSaidBy folders part version
  pub agree : (one other : Parts) → SaysVersion verb given old one → SaysVersion verb given old other
      → one.instance ≡ other.instance → one ≡ other
  pub none : (uid : List ℕ) → ¬ Withdraws verb given old uid

-- ---- what a directory lists

-- These are the versions and the withdrawn UIDs that are said. What a catalogue holds of them is what OUT/DICOMDIR
-- lists: following its offsets from the root visits each kept instance exactly once, beneath its own series, study and
-- patient, and nothing else. Read again, it says its versions and its withdrawn UIDs.
pub record ListsKept (verb : Verb) (given : List Row) (old new : Held) : Type 0 where
  pub taken : Contents
  pub versions : (version : Parts) → Contains taken.versions version ↔ SaysVersion verb given old version
  pub withdrawn : (uid : List ℕ) → Contains taken.withdrawn uid ↔ Withdraws verb given old uid
  pub bytes : List ℕ
  pub directory : LeavesDirectory verb given bytes new
  pub visited : let h = held_of taken in
      Realises (label_for (choice_of given) h.versions h.withdrawn) h.versions bytes
  pub again : let h = held_of taken in SaysItself h.versions h.withdrawn bytes
