-- What files hold once sources were staged: their copies, the list of them, and what stood there before.
use Rattle.std.specs.Prelude.{◌≡◌, ◌≢◌, ℕ, ◌+◌, ◌<◌, ◌≤◌, ◌^◌}
use Rattle.std.specs.Prelude.{List, length, map, min, slice_get, Option, None, Some, option_map, true, false}
use Rattle.std.specs.Prelude.{Result, Ok, Err}
use Rattle.dd_keys.specs.Sources.{Answer}
use Rattle.dd_version.specs.declared.parts.Parts.{Parts}
use Rattle.dd_staged.specs.declared.source_fault.SourceFault.{SourceFault}
use Rattle.dd_staged.specs.declared.source_fault.SourceFault.TheVariants.{BadName, Key}
use Rattle.std.specs.List.{AllByRecursion}
use Rattle.dd_files.specs.Files.{Held, published}
use Rattle.dd_staged.specs.Sources.{Source, has_copy}
use Rattle.dd_staged.specs.Stages.{IsStage, stage_text}
use Rattle.dd_pile.specs.Copies.{IsCopyOf}
use Rattle.dd_files.specs.Keeping.{IfSaid, IsFree, KeepsAll}
use Rattle.dd_files.specs.PowerCuts.{IsAllStored}
use Rattle.dd_pile.specs.Paths.{IsCopyPath, IsListPath}
use Rattle.dd_pile.specs.Refusals.{Names}
use Rattle.dd_pile.specs.Sums.{AddsUp}
use Rattle.dd_pile.specs.declared.refusal.StageRefusal.{StageRefusal}
use Rattle.dd_pile.specs.declared.source.StageSource.{StageSource}
use Rattle.dd_pile.specs.declared.sum.StageSum.{StageSum}

-- The copy of the source with this number, from 1, has this length, and stands at its place, where no file stood. This
-- is found in the file at the path of the source.
pub record IsCopied (pile : List ℕ) (number : ℕ) (source : StageSource) (size : ℕ) (answer : Answer) (old new : Held)
    : Type 0 where
  pub named : source.is_bad_name ≡ false
  pub path : List ℕ
  pub place : IsCopyPath pile number path
  pub free : old.bytes_at path ≡ None
  pub copy : List ℕ
  pub made : new.bytes_at path ≡ Some copy
  pub counted : size ≡ length copy
  pub of : IsCopyOf (new.bytes_at source.path.now) copy answer

-- what the list says of a copied source: its version, or the fault of its file
abbrev pub as_listed : Answer → Result Parts SourceFault
as_listed (Ok parts) = Ok parts
as_listed (Err fault) = Err (Key fault)

-- the number of a bad name, which has 32 bits, as the number of items of a list
abbrev pub stage_number : ℕ → ℕ
stage_number number = min number 0xffffffff

-- The source with this number is listed with this length, and with what is found of it: in its copy, or why it was not
-- read.
abbrev pub IsListedAs : List ℕ → ℕ → StageSource → ℕ → Result Parts SourceFault → Held → Held → Type 0
IsListedAs pile number source size (Ok parts) old new = IsCopied pile number source size (Ok parts) old new
IsListedAs pile number source size (Err (Key fault)) old new = IsCopied pile number source size (Err fault) old new
IsListedAs pile number source size (Err (BadName n)) old new =
    (size ≡ 0) × ((source.is_bad_name ≡ true) × (n ≡ stage_number number))
IsListedAs pile number source size (Err fault) old new = (size ≡ 0) × (source.is_bad_name ≡ false)

abbrev pub IsStaged : List ℕ → ℕ → StageSource → Source → Held → Held → Type 0
IsStaged pile number source listed old new = IsListedAs pile number source listed.size listed.found old new

-- it was staged, what stood before is as it was, and nothing else was made but at the place of its copy
pub record StagesOne (pile : List ℕ) (number : ℕ) (source : StageSource) (listed : Source) (old new : Held)
    : Type 0 where
  pub stays : KeepsAll old new
  pub staged : IsStaged pile number source listed old new
  pub others : (other : List ℕ) → ¬ IsCopyPath pile number other → new.bytes_at other ≡ old.bytes_at other

-- each that is listed is staged
abbrev pub EachStaged : List ℕ → List StageSource → List Source → Held → Held → Type 0
EachStaged pile sources list old new = (at : ℕ) (source : StageSource) (listed : Source)
    → slice_get sources at ≡ Some source → slice_get list at ≡ Some listed
    → IsStaged pile (at + 1) source listed old new

-- the path is that of one of this number of copies
pub record IsOneOfCopies (pile : List ℕ) (count : ℕ) (path : List ℕ) : Type 0 where
  pub at : ℕ
  pub within : at < count
  pub place : IsCopyPath pile (at + 1) path

-- The copies of the sources that are listed stand. What stood before is as it was, and nothing else was made but at the
-- places of copies.
pub record CopiesStand (pile : List ℕ) (sources : List StageSource) (list : List Source) (old new : Held) : Type 0 where
  pub stays : KeepsAll old new
  pub each : EachStaged pile sources list old new
  pub others : (other : List ℕ) → ¬ IsOneOfCopies pile (length list) other → new.bytes_at other ≡ old.bytes_at other

-- the list of these was written, where no file stood
pub record WritesList (pile : List ℕ) (list : List Source) (old new : Option Held) : Type 0 where
  pub path : List ℕ
  pub place : IsListPath pile path
  pub free : IsFree path old
  pub made : new ≡ option_map (published path (stage_text list)) old

-- the copies with the list, which is written where no file stood
pub record PileStands (pile : List ℕ) (sources : List StageSource) (list : List Source) (old new : Held) : Type 0 where
  pub stays : KeepsAll old new
  pub each : EachStaged pile sources list old new
  pub path : List ℕ
  pub place : IsListPath pile path
  pub free : old.bytes_at path ≡ None
  pub written : new.bytes_at path ≡ Some (stage_text list)
  pub others : (other : List ℕ) → path ≢ other → ¬ IsOneOfCopies pile (length list) other
      → new.bytes_at other ≡ old.bytes_at other
  -- After the last call nothing else can remain on a disc.
  pub stored : IsAllStored old new

-- A pile was made of these sources, each of which is listed in its place, by its name. The bytes of the list spell it,
-- and this is its sum.
pub record MakesPile (pile : List ℕ) (sources : List StageSource) (sum : StageSum) (old new : Option Held) : Type 0
  where
    pub list : List Source
    pub names : map (λ listed. listed.name) list ≡ map (λ source. source.name.now) sources
    pub stands : IfSaid (PileStands pile sources list) old new
    pub spelled : IsStage (stage_text list) list
    pub adds_up : AddsUp list sum

-- each name is one
abbrev pub HaveNames : List StageSource → Type 0
HaveNames sources = AllByRecursion (λ source. source.is_bad_name ≡ false) sources

abbrev pub HasCopy : Source → Type 0
HasCopy listed = has_copy listed.found ≡ true

-- ---- refusals

-- the copies of all sources before this one stand
pub record StandsBefore (pile : List ℕ) (sources : List StageSource) (at : ℕ) (old new : Option Held) : Type 0 where
  pub within : at < length sources
  pub list : List Source
  pub count : length list ≡ at
  pub stand : IfSaid (EachStaged pile sources list) old new

-- where the refusal names a source, it is the first that was not staged
abbrev pub IsRefusedInTurn : List ℕ → List StageSource → Option Held → Option Held → StageRefusal → Type 0
IsRefusedInTurn pile sources old new refusal = Names (λ at. StandsBefore pile sources at old new) refusal

-- all copies stand, and no list, since it would be too large
pub record HasNoRoom (pile : List ℕ) (sources : List StageSource) (old new : Option Held) : Type 0 where
  pub list : List Source
  pub count : length list ≡ length sources
  pub stand : IfSaid (CopiesStand pile sources list) old new
  pub large : 2 ^ 32 ≤ length (stage_text list)
