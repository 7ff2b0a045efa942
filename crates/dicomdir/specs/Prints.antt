-- What a command prints where it is done: what it says of its sources, and then what it made, or would make.
use Rattle.std.specs.Prelude.{◌≡◌, ℕ, List, ◌++◌, Bool, true, false, Option, Ok, IfSome, length}
use Rattle.dd_elem.specs.declared.device.Write.{Ghosts as WriteOf}
use Rattle.dd_engine.specs.declared.choice.Choice.{Choice}
use Rattle.dd_engine.specs.declared.engine.Indexed.{Indexed}
use Rattle.dd_engine.specs.declared.noted_index.NotedIndex.{NotedIndex}
use Rattle.dd_engine.specs.declared.noted_merge.NotedMerge.{NotedMerge}
use Rattle.dd_engine.specs.MergeNotes.{NotesSets}
use Rattle.dd_files.specs.Files.{Held}
use Rattle.dd_json.specs.declared.value.Style.{Style}
use Rattle.dd_layout.specs.Layouts.{Layout}
use Rattle.dd_layout.specs.Plans.{size}
use Rattle.dd_lines.specs.Text.{TakesText}
use Rattle.dd_messages.specs.Counts.{ending_text, images_text}
use Rattle.dd_messages.specs.declared.counts.Ending.TheVariants.{Done, Planned}
use Rattle.dicomdir.specs.Indexes.{Indexes, bytes_of_files, limits_of, status_past}
use Rattle.dd_inputs.specs.ListedNames.{HavePaths}
use Rattle.dicomdir.specs.Merges.{AreDirectories}
use Rattle.dicomdir.specs.Noted.{IsNoted, IsNotedIndex}
use Rattle.dicomdir.specs.Said.{SaysNotes, SaysSetNotes}

-- the number of bytes of the directory of this layout
abbrev pub size_of : Layout → ℕ
size_of plan = size plan.label plan.versions plan.withdrawn

-- ---- `index`

-- The last line: of a file-set with this index that was made or, where nothing is made, of one that would be. That has
-- the number of bytes of its images, which are copies of files of these names.
abbrev pub IsLastLine : Style → Bool → List (List ℕ) → Option Held → Indexed → List ℕ → Type 0
IsLastLine style false sources files indexed line =
    line ≡ ending_text style Done (length indexed.plan.versions) (size_of indexed.plan)
IsLastLine style true sources files indexed line = (images : ℕ)
    × IfSome files (λ held. images ≡ bytes_of_files held sources indexed.picks.items)
    × (line ≡ images_text style (length indexed.plan.versions) (size_of indexed.plan) images)

-- The notes on what was read of these sources, and then the last line. In a strict run nothing is noted. The status
-- says whether each source was read whole.
pub record PrintsIndex {W : Type 0} (writer : WriteOf W) (style : Style) (is_dry is_strict keeps_going : Bool)
    (choice : Choice) (bytes : ℕ) (sources : List (List ℕ)) (status : ℕ) (files : Option Held) (old new : W)
    : Type 0 where
  pub noted : NotedIndex
  pub indexes : Indexes keeps_going choice bytes sources files noted
  pub past : status ≡ status_past 0 noted.indexed.skipped.items
  pub paths : List (List ℕ)
  pub bad : List ℕ
  pub have : HavePaths sources paths bad
  pub notes : List ℕ
  pub said : SaysNotes style paths noted notes
  pub strict : is_strict ≡ true → ¬ IsNotedIndex noted
  pub line : List ℕ
  pub last : IsLastLine style is_dry sources files noted.indexed line
  pub printed : TakesText writer old new (notes ++ line)

-- ---- `merge` and `withdraw`

-- the last line of a file-set with this layout that was made or, where nothing is made, of one that would be
abbrev pub last_line : Style → Bool → Layout → List ℕ
last_line style false plan = ending_text style Done (length plan.versions) (size_of plan)
last_line style true plan = ending_text style Planned (length plan.versions) (size_of plan)

-- The notes on what the directories in these folders list, without what they withdraw and the given UIDs, and then the
-- last line. In a strict run nothing is noted.
pub record PrintsMerge {W : Type 0} (writer : WriteOf W) (style : Style) (is_dry is_strict : Bool) (choice : Choice)
    (bytes : ℕ) (given folders : List (List ℕ)) (files : Option Held) (old new : W) : Type 0 where
  pub sets : List (List ℕ)
  pub are : AreDirectories folders sets files
  pub noted : NotedMerge
  pub merges : NotesSets choice (limits_of bytes) given sets (Ok noted)
  pub notes : List ℕ
  pub said : SaysSetNotes style folders noted notes
  pub strict : is_strict ≡ true → ¬ IsNoted noted
  pub printed : TakesText writer old new (notes ++ last_line style is_dry noted.merged.plan)
