-- What a command that makes a file-set changes in files that tell what they hold: it makes the file of each image,
-- record by record, and then the directory.
use Rattle.std.specs.Prelude.{◌≡◌, ◌⊎◌, ◌<◌, ◌≤◌, ◌++◌, ℕ, List, [], ◌∷◌, All, filter, zip, Option, None, Some, is_some}
use Rattle.std.specs.Prelude.{IfSome, IsSomeAnd, codes, length, option_map, slice_get}
use Rattle.dd_catalogue.specs.Best.{IsRising}
use Rattle.dd_catalogue.specs.Harmony.{harmonised}
use Rattle.dd_catalogue.specs.Versions.{IsCatalogue}
use Rattle.dd_dir.specs.Directories.{directory_of}
use Rattle.dd_dir.specs.SaysItself.{SaysItself}
use Rattle.dd_dir.specs.Visits.{Realises}
use Rattle.dd_elem.specs.FileId.{AreRanks, Ranks, text_of}
use Rattle.dd_elem.specs.Ordered.{bytes_cmp}
use Rattle.dd_files.specs.Files.{Held, linked, published, started, stored}
use Rattle.dd_files.specs.Keeping.{HasBytes, IsFree}
use Rattle.dd_files.specs.Paths.{IsPathIn, id_path}
use Rattle.dd_filing.specs.declared.agreeing.Filed.TheVariants.{AsPlanned}
use Rattle.dd_filing.specs.Filing.{IsFileAs}
use Rattle.dd_version.specs.declared.parts.Parts.{Parts}
use Rattle.dd_records.specs.declared.record.PlanRecord.{PlanRecord}
use Rattle.dd_layout.specs.Layouts.{Layout}
use Rattle.dd_layout.specs.Plans.{records_of}
use Rattle.dd_file_set.specs.declared.origins.Lookup.{Lookup}
use Rattle.dd_file_set.specs.declared.origins.Lookup.TheVariants.{Stored}

-- the path of the file with this File ID (PS3.10 section 8.2) in the folder
abbrev pub IsPlace : List ℕ → Ranks → List ℕ → Type 0
IsPlace folder file path = All (λ byte. byte < 128) (text_of file) → IsPathIn folder (id_path (text_of file)) path

-- the path of an image in the folder
pub record IsImagePath (folder path : List ℕ) : Type 0 where
  pub file : Ranks
  pub ranks : AreRanks file
  pub place : IsPlace folder file path

-- The folder of the file at this path was made. Its path is what stands before the last component, which has at most
-- eight characters (PS3.10 section 8.2).
pub record HasFolderOf (has_folder : List ℕ → Type 0) (path : List ℕ) : Type 0 where
  pub folder : List ℕ
  pub last : List ℕ
  pub is : path ≡ folder ++ 47 ∷ last
  pub short : length last ≤ 8
  pub made : has_folder folder

-- a new file is being written there, where none stood
pub record StartsImage (folder : List ℕ) (file : Ranks) (old new : Option Held) : Type 0 where
  pub path : List ℕ
  pub ranks : AreRanks file
  pub place : IsPlace folder file path
  pub free : IsFree path old
  pub started : new ≡ option_map (started path) old

-- a file at one of these paths has these bytes, where the files say what they hold
pub record HasAtOne (From : List ℕ → Type 0) (bytes : List ℕ) (files : Option Held) : Type 0 where
  pub from : List ℕ
  pub picked : From from
  pub there : HasBytes from bytes files

-- A file at one of these paths was copied there, where none stood. It is a file of the planned version, wholly of the one
-- that is said, and all other files are as they were.
pub record CopiesImage (From : List ℕ → Type 0) (said : Option Parts) (folder : List ℕ) (file : Ranks) (planned : Parts)
    (old new : Option Held) : Type 0 where
  pub path : List ℕ
  pub bytes : List ℕ
  pub ranks : AreRanks file
  pub place : IsPlace folder file path
  pub free : IsFree path old
  pub of : HasAtOne From bytes old
  pub is : IsFileAs planned said AsPlanned bytes
  pub made : new ≡ option_map (published path bytes) old

-- where a file was stored before, these bytes are as many as it had then
abbrev pub IsAsStored : Lookup → List ℕ → Type 0
IsAsStored (Stored folder size) bytes = length bytes ≡ size
IsAsStored lookup bytes = Unit {0}

-- A file at one of these paths, whose bytes a hard link may have, has one there, where no file stood. All other files
-- are as they were.
pub record LinksImage (From MayLink : List ℕ → Type 0) (folder : List ℕ) (file : Ranks) (old new : Option Held)
    : Type 0 where
  pub path : List ℕ
  pub from : List ℕ
  pub ranks : AreRanks file
  pub place : IsPlace folder file path
  pub picked : From from
  pub there : IfSome old (λ held. IsSomeAnd (held.bytes_at from) MayLink)
  pub free : IsFree path old
  pub made : new ≡ option_map (linked from path) old

-- the image was made of the file at one of these paths: as a copy, or as a hard link where it may have its bytes
abbrev pub MakesImage : (List ℕ → Type 0) → (List ℕ → Type 0) → Option Parts → List ℕ → Ranks → Parts → Option Held
    → Option Held
    → Type 0
MakesImage From MayLink said folder file planned old new =
    CopiesImage From said folder file planned old new ⊎ LinksImage From MayLink folder file old new

-- the image of this record was made
pub record MakesRow (From MayLink : List ℕ → Type 0) (said : Option Parts) (folder : List ℕ) (versions : List Parts)
    (row : PlanRecord)
    (old new : Option Held) : Type 0 where
  pub file : Ranks
  pub named : row.file ≡ Some file
  pub planned : Parts
  pub of : slice_get versions row.of ≡ Some planned
  pub made : MakesImage From MayLink said folder file planned old new

-- The images of these records were made one after the other, each with its pick. That says where its file may stand,
-- which bytes a hard link to it may have, and of which version a copy of it is wholly.
abbrev pub MakesRows : {P : Type 0} → (P → List ℕ → Type 0) → (P → List ℕ → Type 0) → (P → Option Parts) → List ℕ
    → List Parts
    → List (PlanRecord × P) → Option Held → Option Held → Type 0
MakesRows From MayLink said folder versions [] old new = new ≡ old
MakesRows From MayLink said folder versions (row ∷ rows) old new = (mid : Option Held)
    × MakesRow (From row.1) (MayLink row.1) (said row.1) folder versions row.0 old mid
    × MakesRows From MayLink said folder versions rows mid new

-- the images of the records that have a file were made, as long as there were picks, and nothing else
abbrev pub MakesImages : {P : Type 0} → (P → List ℕ → Type 0) → (P → List ℕ → Type 0) → (P → Option Parts) → List ℕ
    → List Parts
    → List PlanRecord → List P → Option Held → Option Held → Type 0
MakesImages From MayLink said folder versions records picks old new =
    MakesRows From MayLink said folder versions (zip (filter (λ row. is_some row.file) records) picks) old new

-- the image of a record with this file was made, which uses up the first pick; without a file or a pick, nothing was
abbrev pub CopiesTo : {P : Type 0} → (P → List ℕ → Type 0) → (P → List ℕ → Type 0) → (P → Option Parts) → List ℕ
    → List Parts → PlanRecord
    → Option Ranks → List P → List P → Option Held → Option Held → Type 0
CopiesTo From MayLink said folder versions row None picks later old new = (later ≡ picks) × (new ≡ old)
CopiesTo From MayLink said folder versions row (Some file) [] later old new = (later ≡ []) × (new ≡ old)
CopiesTo From MayLink said folder versions row (Some file) (pick ∷ more) later old new =
    (later ≡ more) × MakesRow (From pick) (MayLink pick) (said pick) folder versions row old new

abbrev pub Copies : {P : Type 0} → (P → List ℕ → Type 0) → (P → List ℕ → Type 0) → (P → Option Parts) → List ℕ
    → List Parts → PlanRecord
    → List P → List P → Option Held → Option Held → Type 0
Copies From MayLink said folder versions row picks later old new =
    CopiesTo From MayLink said folder versions row row.file picks later old new

-- Where the plan has the versions of a catalogue in harmony, following the offsets of its directory visits each of them
-- exactly once, and nothing else.
abbrev pub RealisesPlan : Layout → Type 0
RealisesPlan plan = (m : List Parts) → IsCatalogue m → plan.versions ≡ harmonised m
    → Realises plan.label m (directory_of plan.label plan.versions plan.withdrawn)

-- and where its withdrawn UIDs rise, its directory says the versions and these UIDs again
abbrev pub SaysPlan : Layout → Type 0
SaysPlan plan = (m : List Parts) → IsCatalogue m → plan.versions ≡ harmonised m
    → IsRising (λ uid. uid) bytes_cmp plan.withdrawn
    → SaysItself m plan.withdrawn (directory_of plan.label plan.versions plan.withdrawn)

-- The images of the records of the plan were made in the folder, one for each pick, and then its directory (PS3.10
-- section 8.6). All was stored before the directory was made, and once it had ended.
pub record MakesFileSet {P : Type 0} (From MayLink : P → List ℕ → Type 0) (said : P → Option Parts) (folder : List ℕ)
    (plan : Layout)
    (picks : List P) (old new : Option Held) : Type 0 where
  pub copied : Option Held
  pub images : MakesImages From MayLink said folder plan.versions (records_of plan.label plan.versions) picks old copied
  pub path : List ℕ
  pub place : IsPathIn folder (codes "DICOMDIR") path
  pub free : IsFree path copied
  pub directory : new ≡ option_map
      (λ held. stored (published path (directory_of plan.label plan.versions plan.withdrawn) (stored held))) copied
  pub visited : RealisesPlan plan
  pub again : SaysPlan plan
