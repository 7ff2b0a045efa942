-- What a command that makes a file-set makes and prints, by the words of its line.
use Rattle.std.specs.Prelude.{◌≡◌, ℕ, List, [], Option, None, Some, false, option_map, true, unwrap_or}
use Rattle.clap.specs.Takes.{is_given}
use Rattle.clap.specs.Words.{Row, Text, first_of}
use Rattle.dd_engine.specs.declared.choice.Choice.{Choice}
use Rattle.dd_elem.specs.declared.device.Write.{Ghosts as WriteOf}
use Rattle.dd_files.specs.Files.{Held}
use Rattle.dd_line.specs.Line.{IsLimit, dry_run_name, files0_from_name, from_name, given_for, id_name, instance_name}
use Rattle.dd_line.specs.Line.{json_name, keep_going_name, link_name, max_bytes_name, out_name, pile_name, set_name}
use Rattle.dd_line.specs.Line.{source_name, strict_name, uid_name, verb_name}
use Rattle.dd_line.specs.Requests.{IsOnly}
use Rattle.dd_line.specs.declared.line.Verb.TheVariants.{Index, Merge, Withdraw, Stage, Publish}
use Rattle.dd_inputs.specs.From.{looked_up, looked_up_list}
use Rattle.dicomdir.specs.Indexes.{MakesIndex}
use Rattle.dd_refusals.specs.Styles.{style_by}
use Rattle.dd_inputs.specs.ListedNames.{AreSources}
use Rattle.dicomdir.specs.Merges.{MakesMerge}
use Rattle.dicomdir.specs.Names.{choice_by}
use Rattle.dicomdir.specs.Prints.{PrintsIndex, PrintsMerge}
use Rattle.dicomdir.specs.Publishes.{MakesPublish, PrintsPublish}
use Rattle.dicomdir.specs.Stages.{Stages}

-- the words name this command
abbrev pub IsIndex : Option (Text × List Row) → Type 0
IsIndex None = ⊥
IsIndex (Some (command, given)) = command ≡ verb_name Index

abbrev pub IsMerge : Option (Text × List Row) → Type 0
IsMerge None = ⊥
IsMerge (Some (command, given)) = command ≡ verb_name Merge

abbrev pub IsWithdraw : Option (Text × List Row) → Type 0
IsWithdraw None = ⊥
IsWithdraw (Some (command, given)) = command ≡ verb_name Withdraw

abbrev pub IsStage : Option (Text × List Row) → Type 0
IsStage None = ⊥
IsStage (Some (command, given)) = command ≡ verb_name Stage

abbrev pub IsPublish : Option (Text × List Row) → Type 0
IsPublish None = ⊥
IsPublish (Some (command, given)) = command ≡ verb_name Publish

-- the folder in which they have paths looked up, or an empty path for the current one
abbrev pub from_in : List Row → Text
from_in given = unwrap_or (first_of from_name given) []

-- the list of names that they give, where it is looked up
abbrev pub list_in : List Row → Option Text
list_in given = option_map (looked_up_list (from_in given)) (first_of files0_from_name given)

-- the words give a new file-set this folder, and its directory at most this number of bytes
pub record GivesNewSet (given : List Row) (folder : Text) (bytes : ℕ) : Type 0 where
  pub out : IsOnly out_name given folder
  pub limit : IsLimit (first_of max_bytes_name given) bytes

-- the label that they ask for
abbrev pub choice_of : List Row → Choice
choice_of given = choice_by (first_of id_name given) (first_of uid_name given)

-- `index` made this of the files at its sources: the paths after OUT and, after these, the names of its list
pub record IndexesRows (given : List Row) (status : ℕ) (old new : Option Held) : Type 0 where
  pub folder : Text
  pub bytes : ℕ
  pub new_set : GivesNewSet given folder bytes
  pub sources : List Text
  pub are : AreSources (is_given keep_going_name given) (first_of files0_from_name given)
      (given_for source_name given) old sources
  pub made : MakesIndex (choice_of given) bytes sources folder status old new

-- `merge` made this of the file-sets in its folders: the paths after OUT and, after these, the names of its list
pub record MergesRows (given : List Row) (old new : Option Held) : Type 0 where
  pub folder : Text
  pub bytes : ℕ
  pub new_set : GivesNewSet given folder bytes
  pub folders : List Text
  pub are : AreSources false (first_of files0_from_name given) (given_for set_name given) old folders
  pub made : MakesMerge (choice_of given) bytes [] folders (is_given link_name given ≡ true) folder old new

-- `withdraw` made this of the file-set in its folder, without the instances that it was given
pub record WithdrawsRows (given : List Row) (old new : Option Held) : Type 0 where
  pub folder : Text
  pub bytes : ℕ
  pub new_set : GivesNewSet given folder bytes
  pub made : MakesMerge (choice_of given) bytes (given_for instance_name given) (given_for set_name given) ⊥ folder
      old new

-- `stage` made a pile of the files at its sources, and printed its sum: of the paths after PILE and, after these, of the
-- names of its list
pub record StagesRows {W : Type 0} (writer : WriteOf W) (given : List Row) (status : ℕ) (files made : Option Held)
    (old new : W) : Type 0 where
  pub pile : Text
  pub place : IsOnly out_name given pile
  pub names : List Text
  pub are : AreSources (is_given keep_going_name given) (list_in given) (given_for source_name given) files names
  pub staged : Stages writer (style_by (is_given json_name given)) (is_given keep_going_name given) (from_in given) pile
      names status files made old new

-- `publish` made this of the piles in its folders: the paths after OUT and, after these, the names of its list
pub record PublishesRows (given : List Row) (status : ℕ) (old new : Option Held) : Type 0 where
  pub folder : Text
  pub bytes : ℕ
  pub new_set : GivesNewSet given folder bytes
  pub piles : List Text
  pub are : AreSources false (list_in given) (given_for pile_name given) old piles
  pub made : MakesPublish (choice_of given) bytes piles (is_given link_name given ≡ true)
      (looked_up (from_in given) folder) status old new

-- the same of the command that the words name, and what they give it
abbrev pub IndexesLine : Option (Text × List Row) → ℕ → Option Held → Option Held → Type 0
IndexesLine None status old new = ⊥
IndexesLine (Some (command, given)) status old new = IndexesRows given status old new

abbrev pub MergesLine : Option (Text × List Row) → Option Held → Option Held → Type 0
MergesLine None old new = ⊥
MergesLine (Some (command, given)) old new = MergesRows given old new

abbrev pub WithdrawsLine : Option (Text × List Row) → Option Held → Option Held → Type 0
WithdrawsLine None old new = ⊥
WithdrawsLine (Some (command, given)) old new = WithdrawsRows given old new

abbrev pub StagesLine : {W : Type 0} → WriteOf W → Option (Text × List Row) → ℕ → Option Held → Option Held → W → W
    → Type 0
StagesLine writer None status files made old new = ⊥
StagesLine writer (Some (command, given)) status files made old new = StagesRows writer given status files made old new

abbrev pub PublishesLine : Option (Text × List Row) → ℕ → Option Held → Option Held → Type 0
PublishesLine None status old new = ⊥
PublishesLine (Some (command, given)) status old new = PublishesRows given status old new

-- ---- what it prints

-- `index` printed this of the files at its sources, in the style that the words ask for
pub record SaysOfSources {W : Type 0} (writer : WriteOf W) (given : List Row) (status : ℕ) (files : Option Held)
    (old new : W) : Type 0 where
  pub bytes : ℕ
  pub limit : IsLimit (first_of max_bytes_name given) bytes
  pub sources : List Text
  pub are : AreSources (is_given keep_going_name given) (first_of files0_from_name given)
      (given_for source_name given) files sources
  pub says : PrintsIndex writer (style_by (is_given json_name given)) (is_given dry_run_name given)
      (is_given strict_name given) (is_given keep_going_name given) (choice_of given) bytes sources status files old new

-- `merge` printed this of the file-sets in its folders
pub record SaysOfSets {W : Type 0} (writer : WriteOf W) (given : List Row) (files : Option Held) (old new : W)
    : Type 0 where
  pub bytes : ℕ
  pub limit : IsLimit (first_of max_bytes_name given) bytes
  pub folders : List Text
  pub are : AreSources false (first_of files0_from_name given) (given_for set_name given) files folders
  pub says : PrintsMerge writer (style_by (is_given json_name given)) (is_given dry_run_name given)
      (is_given strict_name given) (choice_of given) bytes [] folders files old new

-- `withdraw` printed this of the file-set in its folder, without the instances that it was given
pub record SaysOfSet {W : Type 0} (writer : WriteOf W) (given : List Row) (files : Option Held) (old new : W)
    : Type 0 where
  pub bytes : ℕ
  pub limit : IsLimit (first_of max_bytes_name given) bytes
  pub says : PrintsMerge writer (style_by (is_given json_name given)) (is_given dry_run_name given)
      (is_given strict_name given) (choice_of given) bytes (given_for instance_name given) (given_for set_name given)
      files old new

-- `publish` printed this of the piles in its folders
pub record SaysOfPiles {W : Type 0} (writer : WriteOf W) (given : List Row) (status : ℕ) (files : Option Held)
    (old new : W) : Type 0 where
  pub bytes : ℕ
  pub limit : IsLimit (first_of max_bytes_name given) bytes
  pub piles : List Text
  pub are : AreSources false (list_in given) (given_for pile_name given) files piles
  pub says : PrintsPublish writer (style_by (is_given json_name given)) (is_given dry_run_name given)
      (is_given strict_name given) (choice_of given) bytes piles status files old new

abbrev pub IndexSays : {W : Type 0} → WriteOf W → Option (Text × List Row) → ℕ → Option Held → W → W → Type 0
IndexSays writer None status files old new = ⊥
IndexSays writer (Some (command, given)) status files old new = SaysOfSources writer given status files old new

abbrev pub MergeSays : {W : Type 0} → WriteOf W → Option (Text × List Row) → Option Held → W → W → Type 0
MergeSays writer None files old new = ⊥
MergeSays writer (Some (command, given)) files old new = SaysOfSets writer given files old new

abbrev pub WithdrawSays : {W : Type 0} → WriteOf W → Option (Text × List Row) → Option Held → W → W → Type 0
WithdrawSays writer None files old new = ⊥
WithdrawSays writer (Some (command, given)) files old new = SaysOfSet writer given files old new

abbrev pub PublishSays : {W : Type 0} → WriteOf W → Option (Text × List Row) → ℕ → Option Held → W → W → Type 0
PublishSays writer None status files old new = ⊥
PublishSays writer (Some (command, given)) status files old new = SaysOfPiles writer given status files old new
