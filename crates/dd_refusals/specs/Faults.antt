-- The line that says why a run is refused: the path that it has, and whether hints follow.
use Rattle.std.specs.Prelude.{◌≡◌, ◌⊎◌, ℕ, Bool, true, false, List, [], codes, Option, None, Some, slice_index_or}
use Rattle.std.specs.Fmt.InlineText.{inline_text}
use Rattle.dd_elem.specs.declared.device.Write.{Ghosts as WriteOf}
use Rattle.dd_faults.specs.declared.refusal.Subject.{Subject}
use Rattle.dd_faults.specs.declared.refusal.Subject.TheVariants as subject
use Rattle.dd_files.specs.Paths.{IsPathIn}
use Rattle.dd_json.specs.declared.value.Style.{Style}
use Rattle.dd_line.specs.Requests.{is_json}
use Rattle.dd_line.specs.declared.request.Request.{Request}
use Rattle.dd_line.specs.declared.request.Request.TheVariants.{Check, Index, List as ListSet, Merge, Publish, Stage, Withdraw}
use Rattle.dd_messages.specs.FaultLines.{TellsFault}
use Rattle.dd_refusals.specs.Styles.{style_by}

-- ---- the path that is concerned

-- the path of this number
abbrev pub path_at : List (List ℕ) → ℕ → List ℕ
path_at paths at = slice_index_or paths at []

-- the path of this name in the folder
pub record IsInside (folder name : List ℕ) (path : Option (List ℕ)) : Type 0 where
  pub at : List ℕ
  pub is : path ≡ Some at
  pub place : IsPathIn folder name at

-- the path of some name in the folder
pub record IsBelow (folder : List ℕ) (path : Option (List ℕ)) : Type 0 where
  pub name : List ℕ
  pub inside : IsInside folder name path

-- The path that the line of a refusal has. `folder` is what the run makes, `sources` are what it reads, and `list` is
-- the file with further names. Of what was not stored, the files name the path.
abbrev pub Concerns : List ℕ → List (List ℕ) → List ℕ → Subject → Option (List ℕ) → Type 0
Concerns folder sources list subject.General path = path ≡ None
Concerns folder sources list (subject.Source at) path = path ≡ Some (path_at sources at)
Concerns folder sources list (subject.SetDirectory at) path = IsInside (path_at sources at) (codes "DICOMDIR") path
Concerns folder sources list (subject.SetFile at file) path = IsInside (path_at sources at) (inline_text file) path
Concerns folder sources list (subject.PileFile at file) path = IsInside (path_at sources at) (inline_text file) path
Concerns folder sources list subject.Folder path = path ≡ Some folder
Concerns folder sources list (subject.InPile file) path = IsInside folder (inline_text file) path
Concerns folder sources list subject.Directory path = IsInside folder (codes "DICOMDIR") path
Concerns folder sources list (subject.Image file) path = IsBelow folder path
Concerns folder sources list (subject.ImageFolder file) path = IsBelow folder path
Concerns folder sources list subject.List path = path ≡ Some list
Concerns folder sources list subject.Unstored path = (shown : List ℕ) × (path ≡ Some shown)

-- ---- the line

-- the same with the path of the subject
pub record TellsOf {W : Type 0} (writer : WriteOf W) (style : Style) (folder : List ℕ) (sources : List (List ℕ))
    (list : List ℕ) (subject : Subject) (old new : W) : Type 0 where
  pub path : Option (List ℕ)
  pub concerned : Concerns folder sources list subject path
  pub told : TellsFault writer style path old new

-- ---- the line with hints

-- the request has `--quiet`, or `--verbose`
abbrev pub is_quiet : Request → Bool
is_quiet (Index x) = x.new_set.quiet
is_quiet (Merge x) = x.new_set.quiet
is_quiet (Withdraw x) = x.new_set.quiet
is_quiet (Stage x) = x.quiet
is_quiet (Publish x) = x.new_set.quiet
is_quiet (Check x) = x.quiet
is_quiet (ListSet x) = false

abbrev pub is_verbose : Request → Bool
is_verbose (Index x) = x.new_set.verbose
is_verbose (Merge x) = x.new_set.verbose
is_verbose (Withdraw x) = x.new_set.verbose
is_verbose (Stage x) = x.verbose
is_verbose (Publish x) = x.new_set.verbose
is_verbose (Check x) = x.verbose
is_verbose (ListSet x) = x.verbose

-- no line of hints follows: hints are members of the object, or the line has `--quiet` without `--verbose`
abbrev pub HasNoHints : Request → Type 0
HasNoHints r = (is_json r ≡ true) ⊎ ((is_quiet r ≡ true) × (is_verbose r ≡ false))

-- the writer took the line of the refusal, or a front of it, and then lines of hints where the request may have some
pub record TellsRefusal {W : Type 0} (writer : WriteOf W) (r : Request) (folder : List ℕ) (sources : List (List ℕ))
    (list : List ℕ) (subject : Subject) (old new : W) : Type 0 where
  pub line : W
  pub told : TellsOf writer (style_by (is_json r)) folder sources list subject old line
  pub alone : HasNoHints r → new ≡ line
