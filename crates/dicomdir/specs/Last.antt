-- What a command makes last, once all else is stored.
use Rattle.std.specs.Prelude.{◌≡◌, List, ℕ, Option, None, Some, string_bytes}
use Rattle.clap.specs.Words.{Row, Text}
use Rattle.dd_files.specs.Files.{Held}
use Rattle.dd_files.specs.Keeping.{KeepsAll}
use Rattle.dd_files.specs.PowerCuts.{IsSafeAtCuts}
use Rattle.dd_line.specs.Line.{out_name, verb_name}
use Rattle.dd_line.specs.Requests.{IsOnly}
use Rattle.dd_line.specs.declared.line.Verb.{Verb}
use Rattle.dd_line.specs.declared.line.Verb.TheVariants as verbs
use Rattle.dd_line.specs.declared.request.Request.{Request}
use Rattle.dd_line.specs.declared.request.Request.TheVariants.{Check, Index, List as ListSet, Merge, Publish, Stage, Withdraw}
use Rattle.dd_pile.specs.Last.{MakesListLast}
use Rattle.dd_pile.specs.Paths.{IsListPath}
use Rattle.dd_inputs.specs.From.{from_text, looked_up}
use Rattle.dd_file_set.specs.Left.{MakesDirectoryLast}
use Rattle.dicomdir.specs.Lines.{from_in}

-- What stood before is as it was. The list of this pile is made once all copies are stored, so wherever the power is cut
-- it is as it was, or the copies are whole.
pub record StagesListLast (pile : List ℕ) (old new : Held) : Type 0 where
  pub last : MakesListLast pile old new
  pub cuts : (path : List ℕ) → IsListPath pile path → IsSafeAtCuts path old new

-- what a request makes last: the directory in OUT, or the list of a pile
abbrev pub MakesLastOf : Request → Held → Held → Type 0
MakesLastOf (Index x) old new = MakesDirectoryLast (string_bytes x.new_set.out) old new
MakesLastOf (Merge x) old new = MakesDirectoryLast (string_bytes x.new_set.out) old new
MakesLastOf (Withdraw x) old new = MakesDirectoryLast (string_bytes x.new_set.out) old new
MakesLastOf (Stage x) old new = StagesListLast (string_bytes x.pile) old new
MakesLastOf (Publish x) old new =
    MakesDirectoryLast (looked_up (from_text x.from) (string_bytes x.new_set.out)) old new
MakesLastOf (Check x) old new = KeepsAll old new
MakesLastOf (ListSet x) old new = KeepsAll old new

-- ---- by the words of a line

-- the same of a command to which the words give this OUT or PILE
abbrev pub MakesLastBy : Verb → List Row → Text → Held → Held → Type 0
MakesLastBy verbs.Index given out old new = MakesDirectoryLast out old new
MakesLastBy verbs.Merge given out old new = MakesDirectoryLast out old new
MakesLastBy verbs.Withdraw given out old new = MakesDirectoryLast out old new
MakesLastBy verbs.Stage given out old new = StagesListLast out old new
MakesLastBy verbs.Publish given out old new = MakesDirectoryLast (looked_up (from_in given) out) old new
MakesLastBy verbs.Check given out old new = KeepsAll old new
MakesLastBy verbs.List given out old new = KeepsAll old new

-- the same of the command that the words name
abbrev pub MakesLastLine : Option (Text × List Row) → Held → Held → Type 0
MakesLastLine None old new = KeepsAll old new
MakesLastLine (Some (command, given)) old new =
    (verb : Verb) (out : Text) → command ≡ verb_name verb → IsOnly out_name given out → MakesLastBy verb given out old new
