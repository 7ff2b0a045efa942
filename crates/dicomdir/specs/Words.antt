-- What the words of a command line name, and what becomes of a line that is read.
use Rattle.std.specs.Prelude.{◌≡◌, ◌≤◌, ◌⊎◌, ℕ, List, [], ◌∷◌, Option, String, string_bytes, true}
use Rattle.clap.specs.Words.{Row, Text, subcommand_of, takes}
use Rattle.dd_engine.specs.declared.choice.Choice.{Choice}
use Rattle.dd_elem.specs.declared.device.Write.{Ghosts as WriteOf}
use Rattle.dd_files.specs.Files.{Held}
use Rattle.dd_line.specs.Line.{dicomdir_app, words_of}
use Rattle.dd_line.specs.Requests.{RequestsBadName, keeps_going, read_of, verb_of}
use Rattle.dd_line.specs.declared.line.Verb.TheVariants as verbs
use Rattle.dd_line.specs.declared.request.Request.{Request}
use Rattle.dd_line.specs.declared.request.Request.TheVariants.{Check, Index, List as ListSet, Merge, Publish, Stage, Withdraw}
use Rattle.dd_inputs.specs.From.{from_text, looked_up}
use Rattle.dicomdir.specs.Indexes.{MakesIndex}
use Rattle.dd_refusals.specs.Styles.{style_by}
use Rattle.dd_inputs.specs.ListedNames.{AreSources, list_of}
use Rattle.dicomdir.specs.Merges.{MakesMerge}
use Rattle.dicomdir.specs.Prints.{PrintsIndex, PrintsMerge}
use Rattle.dicomdir.specs.Publishes.{MakesPublish, PrintsPublish}
use Rattle.dicomdir.specs.Stages.{Stages}

-- the program takes the words
abbrev pub IsTaken : {Z : Type 0} → List (String Z) → Type 0
IsTaken words = takes dicomdir_app (words_of words) ≡ true

-- the command that they name, and what they give it
abbrev pub line_of : {Z : Type 0} → List (String Z) → Option (Text × List Row)
line_of words = subcommand_of dicomdir_app (words_of words)

-- the command finds something where it ends with 3: `check`, one that goes on past sources that fail, or `publish`, whose
-- piles may come of such a one
abbrev pub MayFind : Request → Type 0
MayFind r = (verb_of r ≡ verbs.Check) ⊎ (keeps_going r ≡ true) ⊎ (verb_of r ≡ verbs.Publish)

-- a status that a run of this request may end with, once its line is read and its names are
abbrev pub IsStatusOf : Request → ℕ → Type 0
IsStatusOf r status = (status ≤ 1) ⊎ ((status ≡ 3) × MayFind r)

-- a status that a run of this request may end with
pub record IsRequestStatus (request : Request) (status : ℕ) : Type 0 where
  pub most : status ≤ 3
  pub findings : status ≡ 3 → MayFind request
  -- the line is at fault only where it gives an ID or a UID of the wrong form, and the work of such a line is never done
  pub bad : status ≡ 2 → RequestsBadName request
  pub good : status ≡ 0 → ¬ RequestsBadName request

-- What a request makes of these sources, under this label and without these instances. Only a command that takes a list
-- of names may have sources that the line does not name. What `stage` makes, it says as well.
abbrev pub MakesOf : Request → Choice → List Text → List Text → ℕ → Option Held → Option Held → Type 0
MakesOf (Index x) choice withdrawn sources status old new =
    MakesIndex choice x.new_set.max_bytes sources (string_bytes x.new_set.out) status old new
MakesOf (Merge x) choice withdrawn sources status old new =
    MakesMerge choice x.new_set.max_bytes [] sources (x.link ≡ true) (string_bytes x.new_set.out) old new
MakesOf (Withdraw x) choice withdrawn sources status old new = MakesMerge choice x.new_set.max_bytes withdrawn
    (string_bytes x.set ∷ []) ⊥ (string_bytes x.new_set.out) old new
MakesOf (Stage x) choice withdrawn sources status old new = Unit {0}
MakesOf (Publish x) choice withdrawn sources status old new = MakesPublish choice x.new_set.max_bytes sources
    (x.link ≡ true) (looked_up (from_text x.from) (string_bytes x.new_set.out)) status old new
MakesOf (Check x) choice withdrawn sources status old new = Unit {0}
MakesOf (ListSet x) choice withdrawn sources status old new = Unit {0}

-- what it makes of the paths that it reads and, after them, the names of its list
pub record MakesRequested (r : Request) (choice : Choice) (withdrawn : List Text) (status : ℕ) (old new : Option Held)
    : Type 0 where
  pub sources : List Text
  pub are : AreSources (keeps_going r) (list_of r) (words_of (read_of r)) old sources
  pub made : MakesOf r choice withdrawn sources status old new

-- what a request prints of these sources, under this label and without these instances
abbrev pub SaysOf : {W : Type 0} → WriteOf W → Request → Choice → List Text → List Text → ℕ → Option Held → W → W
    → Type 0
SaysOf writer (Index x) choice withdrawn sources status files old new = PrintsIndex writer (style_by x.new_set.json)
    x.new_set.dry_run x.new_set.strict x.keep_going choice x.new_set.max_bytes sources status files old new
SaysOf writer (Merge x) choice withdrawn sources status files old new = PrintsMerge writer (style_by x.new_set.json)
    x.new_set.dry_run x.new_set.strict choice x.new_set.max_bytes [] sources files old new
SaysOf writer (Withdraw x) choice withdrawn sources status files old new =
    PrintsMerge writer (style_by x.new_set.json) x.new_set.dry_run x.new_set.strict choice x.new_set.max_bytes withdrawn
    (string_bytes x.set ∷ []) files old new
SaysOf writer (Stage x) choice withdrawn sources status files old new = Unit {0}
SaysOf writer (Publish x) choice withdrawn sources status files old new = PrintsPublish writer
    (style_by x.new_set.json) x.new_set.dry_run x.new_set.strict choice x.new_set.max_bytes sources status files old new
SaysOf writer (Check x) choice withdrawn sources status files old new = Unit {0}
SaysOf writer (ListSet x) choice withdrawn sources status files old new = Unit {0}

-- what it prints of the paths that it reads and, after them, the names of its list
pub record SaysRequested {W : Type 0} (writer : WriteOf W) (r : Request) (choice : Choice) (withdrawn : List Text)
    (status : ℕ) (files : Option Held) (old new : W) : Type 0 where
  pub sources : List Text
  pub are : AreSources (keeps_going r) (list_of r) (words_of (read_of r)) files sources
  pub says : SaysOf writer r choice withdrawn sources status files old new

-- what a request that stages makes and prints of the sources of these names
abbrev pub StagesOf : {W : Type 0} → WriteOf W → Request → List Text → ℕ → Option Held → Option Held → W → W → Type 0
StagesOf writer (Index x) names status files made old new = Unit {0}
StagesOf writer (Merge x) names status files made old new = Unit {0}
StagesOf writer (Withdraw x) names status files made old new = Unit {0}
StagesOf writer (Stage x) names status files made old new =
    Stages writer (style_by x.json) x.keep_going (from_text x.from) (string_bytes x.pile) names status files made
    old new
StagesOf writer (Publish x) names status files made old new = Unit {0}
StagesOf writer (Check x) names status files made old new = Unit {0}
StagesOf writer (ListSet x) names status files made old new = Unit {0}

-- the same of the paths that it reads and, after them, the names of its list
pub record StagesRequested {W : Type 0} (writer : WriteOf W) (r : Request) (status : ℕ) (files made : Option Held)
    (old new : W) : Type 0 where
  pub names : List Text
  pub are : AreSources (keeps_going r) (list_of r) (words_of (read_of r)) files names
  pub staged : StagesOf writer r names status files made old new
