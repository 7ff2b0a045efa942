-- The command line: which commands and arguments the program has, and what a line asks for.
--
--   dicomdir index [OPTIONS] [--files0-from FILE] [-k|--keep-going] OUT SRC...
--   dicomdir merge [OPTIONS] [--files0-from FILE] [--link] OUT SET...
--   dicomdir withdraw [OPTIONS] OUT SET UID...
--   dicomdir stage [--files0-from FILE] [--from FOLDER] [-k|--keep-going] [--quiet] [--verbose] [--json] PILE SRC...
--   dicomdir publish [OPTIONS] [--files0-from FILE] [--from FOLDER] [--link] OUT PILE...
--   dicomdir check [--keys] [--strict] [--quiet] [--verbose] [--json] SET
--   dicomdir list [--long] [--verbose] [--json] SET
--
-- OPTIONS are `[--id ID] [--uid UID] [--max-bytes N] [--strict] [--dry-run] [--quiet] [--verbose] [--json]`. Where
-- `--files0-from` is given, SRC, SET or PILE after it may be left out.
use Rattle.std.specs.Prelude.{◌≡◌, ◌≢◌, ◌++◌, [], ℕ, List, Option, Some, None, map, string_bytes, String}
use Rattle.std.specs.Prelude.{Bool, Contains, codes, length, option_map, ◌≤◌, true, false, unwrap_or}
use Rattle.clap.specs.Takes.{is_given}
use Rattle.clap.specs.Words.{App, Row, Rule, Text, all_of, app_of, first_of, kind_of}
use Rattle.clap.specs.Words.{new_app, new_rule, rule_of, with_rule}
use Rattle.clap.specs.Words.{IsAmong, Kinds, fault_of, subcommand_of, takes, with_subcommand}
use Rattle.clap.specs.declared.builder.action.ArgAction.TheVariants.{SetTrue}
use Rattle.clap.specs.declared.builder.arg.Arg.{Arg}
use Rattle.clap.specs.declared.builder.command.Command.{Command}
use Rattle.clap.specs.declared.builder.command.Command.TheViews.{out-Command as fields_of}
use Rattle.clap.specs.declared.error.Error.{Error}
use Rattle.clap.specs.declared.error.kind.ErrorKind.TheVariants.{MissingRequiredArgument, OutOfMemory, ValueValidation}
use Rattle.std.specs.Prelude.{◌⊎◌, ◌∷◌, IfErr, MatchResult, Result, if◌then◌else◌}
use Rattle.std.specs.List.{list_any}
use Rattle.std.specs.Str.{bytes_eq}
use Rattle.dd_elem.specs.SetId.{IsSetId}
use Rattle.dd_elem.specs.Uid.{IsUid}
use Rattle.dd_line.specs.Sizes.{IsSize}
use Rattle.dd_line.specs.declared.line.Asked.{Asked}
use Rattle.dd_line.specs.declared.line.LineFault.{LineFault}
use Rattle.dd_line.specs.declared.line.LineFault.TheVariants.{Refused, Memory}
use Rattle.dd_line.specs.declared.line.Verb.{Verb}
use Rattle.dd_line.specs.declared.line.Verb.TheVariants.{Index, Merge, Withdraw, Stage, Publish, Check, List as ListSet}

-- ---- the arguments and commands

-- the names of the options
abbrev pub id_name : Text
id_name = codes "id"

abbrev pub uid_name : Text
uid_name = codes "uid"

abbrev pub max_bytes_name : Text
max_bytes_name = codes "max-bytes"

abbrev pub files0_from_name : Text
files0_from_name = codes "files0-from"

abbrev pub from_name : Text
from_name = codes "from"

-- the names of the flags
abbrev pub keys_name : Text
keys_name = codes "keys"

abbrev pub strict_name : Text
strict_name = codes "strict"

abbrev pub dry_run_name : Text
dry_run_name = codes "dry-run"

abbrev pub quiet_name : Text
quiet_name = codes "quiet"

abbrev pub verbose_name : Text
verbose_name = codes "verbose"

abbrev pub long_name : Text
long_name = codes "long"

abbrev pub link_name : Text
link_name = codes "link"

abbrev pub keep_going_name : Text
keep_going_name = codes "keep-going"

abbrev pub json_name : Text
json_name = codes "json"

-- the names of the paths, the first of which is the folder that a command writes to
abbrev pub out_name : Text
out_name = codes "out"

abbrev pub source_name : Text
source_name = codes "source"

abbrev pub set_name : Text
set_name = codes "set"

abbrev pub pile_name : Text
pile_name = codes "pile"

-- the name of the images, each by its SOP Instance UID
abbrev pub instance_name : Text
instance_name = codes "instance"

-- the command's name in the line
abbrev pub verb_name : Verb → Text
verb_name Index = codes "index"
verb_name Merge = codes "merge"
verb_name Withdraw = codes "withdraw"
verb_name Stage = codes "stage"
verb_name Publish = codes "publish"
verb_name Check = codes "check"
verb_name ListSet = codes "list"

-- an option `--NAME VALUE` that may be left out
abbrev pub text_option : Text → Rule
text_option name = record (new_rule name) { long = Some name; value_names = 1 }

-- the greatest limit: the most bytes that a length of 32 bits can state
abbrev pub most_bytes : ℕ
most_bytes = 4294967295

-- the letter of the one flag that has a short form, `-k`
abbrev pub letter_of : Text → Option ℕ
letter_of name = if bytes_eq name keep_going_name then Some 107 else None

-- a flag `--NAME` that may be left out
abbrev pub flag : Text → Rule
flag name = record (new_rule name) { long = Some name; short = letter_of name; action = Some SetTrue }

-- a path that has to be given
abbrev pub one_path : Text → Rule
one_path name = record (new_rule name) { value_names = 1; required = true }

-- one or more paths or other words, which have to be given
abbrev pub some_paths : Text → Rule
some_paths name = record (one_path name) {
  range = Some (record { start_inclusive = 1; end_inclusive = 18446744073709551615 });
}

-- any number of paths, or none
abbrev pub any_paths : Text → Rule
any_paths name = record (some_paths name) { required = false }

-- a command that labels a directory of some size: `[--id ID] [--uid UID] [--max-bytes N]`
abbrev pub labelled_app : Text → App
labelled_app name = with_rule (with_rule (with_rule (new_app name)
    (text_option id_name))
    (text_option uid_name))
    (text_option max_bytes_name)

-- one that may make it: `[--id ID] [--uid UID] [--max-bytes N] [--strict] [--dry-run]`
abbrev pub making_app : Text → App
making_app name = with_rule (with_rule (labelled_app name) (flag strict_name)) (flag dry_run_name)

-- one that writes it: those, and `[--quiet] [--verbose] [--json] OUT`
abbrev pub writing_app : Text → App
writing_app name = with_rule (with_rule (with_rule (with_rule (making_app name)
    (flag quiet_name))
    (flag verbose_name))
    (flag json_name))
    (one_path out_name)

-- `index`, with the options of a command that writes, and `[--files0-from FILE] [-k|--keep-going] OUT [SRC]...`
abbrev pub index_app : App
index_app = with_rule (with_rule (with_rule (writing_app (verb_name Index))
    (text_option files0_from_name))
    (flag keep_going_name))
    (any_paths source_name)

-- one that may link images: those of a command that writes, and `[--files0-from FILE] [--link]`
abbrev pub linking_app : Text → App
linking_app name = with_rule (with_rule (writing_app name) (text_option files0_from_name)) (flag link_name)

-- `merge`, with those options, and `OUT [SET]...`
abbrev pub merge_app : App
merge_app = with_rule (linking_app (verb_name Merge)) (any_paths set_name)

-- `withdraw`, with the options of a command that writes, and `OUT SET UID...`
abbrev pub withdraw_app : App
withdraw_app =
    with_rule (with_rule (writing_app (verb_name Withdraw)) (one_path set_name)) (some_paths instance_name)

-- a command that shows what it does: `[--quiet] [--verbose] [--json]`
abbrev pub showing_app : Text → App
showing_app name =
    with_rule (with_rule (with_rule (new_app name) (flag quiet_name)) (flag verbose_name)) (flag json_name)

-- `stage`, with those flags, and `[--files0-from FILE] [--from FOLDER] [-k|--keep-going]`
abbrev pub staging_app : App
staging_app = with_rule (with_rule (with_rule (showing_app (verb_name Stage))
    (text_option files0_from_name))
    (text_option from_name))
    (flag keep_going_name)

-- all of it: those, and `PILE [SRC]...`, where PILE is the folder that it writes to
abbrev pub stage_app : App
stage_app = with_rule (with_rule staging_app (one_path out_name)) (any_paths source_name)

-- `publish`, with the options of a command that may link images, and `[--from FOLDER] OUT [PILE]...`
abbrev pub publish_app : App
publish_app = with_rule (with_rule (linking_app (verb_name Publish)) (text_option from_name)) (any_paths pile_name)

-- a command that reads one file-set: its name, and then SET
abbrev pub reading_app : Text → App
reading_app name = with_rule (new_app name) (one_path set_name)

-- `check [--keys] [--strict] SET`
abbrev pub comparing_app : App
comparing_app = with_rule (with_rule (reading_app (verb_name Check)) (flag keys_name)) (flag strict_name)

-- `check [--keys] [--strict] [--quiet] [--verbose] [--json] SET`
abbrev pub check_app : App
check_app = with_rule (with_rule (with_rule comparing_app (flag quiet_name)) (flag verbose_name)) (flag json_name)

-- `list [--long] [--verbose] [--json] SET`
abbrev pub list_app : App
list_app = with_rule (with_rule (with_rule (reading_app (verb_name ListSet))
    (flag long_name))
    (flag verbose_name))
    (flag json_name)

-- the app has a version, which `--version` asks for
abbrev pub with_version : App → App
with_version a = record a { top = record a.top { has_version = true } }

-- a command line has to name one of the app's commands
abbrev pub with_command_required : App → App
with_command_required a = record a { top = record a.top { subcommand_required = true } }

-- the program without its commands
abbrev pub bare_app : App
bare_app = with_command_required (with_version (new_app (codes "dicomdir")))

-- the program with its commands
abbrev pub dicomdir_app : App
dicomdir_app = with_subcommand (with_subcommand (with_subcommand (with_subcommand (with_subcommand (with_subcommand
    (with_subcommand bare_app
    index_app.top)
    merge_app.top)
    withdraw_app.top)
    stage_app.top)
    publish_app.top)
    check_app.top)
    list_app.top

-- ---- which command has which argument

-- the commands that make a file-set
abbrev pub makers : List Verb
makers = Index ∷ Merge ∷ Withdraw ∷ Publish ∷ []

-- the commands that take sources, which are files, file-sets or piles
abbrev pub gatherers : List Verb
gatherers = Index ∷ Merge ∷ Stage ∷ Publish ∷ []

-- the flags, each with the commands that have it
abbrev pub flags : List (Text × List Verb)
flags = (keys_name, Check ∷ [])
    ∷ (strict_name, Check ∷ makers)
    ∷ (dry_run_name, makers)
    ∷ (quiet_name, Check ∷ Stage ∷ makers)
    ∷ (verbose_name, ListSet ∷ Check ∷ Stage ∷ makers)
    ∷ (long_name, ListSet ∷ [])
    ∷ (link_name, Merge ∷ Publish ∷ [])
    ∷ (keep_going_name, Index ∷ Stage ∷ [])
    ∷ (json_name, ListSet ∷ Check ∷ Stage ∷ makers)
    ∷ []

-- the options with a value and the paths, likewise
abbrev pub options : List (Text × List Verb)
options = (id_name, makers)
    ∷ (uid_name, makers)
    ∷ (max_bytes_name, makers)
    ∷ (files0_from_name, gatherers)
    ∷ (from_name, Stage ∷ Publish ∷ [])
    ∷ (out_name, Stage ∷ makers)
    ∷ (source_name, Index ∷ Stage ∷ [])
    ∷ (set_name, Merge ∷ Withdraw ∷ Check ∷ ListSet ∷ [])
    ∷ (pile_name, Publish ∷ [])
    ∷ (instance_name, Withdraw ∷ [])
    ∷ []

-- the text is one of these
abbrev pub is_among : List Text → Text → Bool
is_among names name = list_any (λ n. bytes_eq n name) names

-- the command is one of these
abbrev pub has : List Verb → Verb → Bool
has verbs verb = is_among (map verb_name verbs) (verb_name verb)

-- the names of the flags
abbrev pub flag_names : List Text
flag_names = map (λ f. f.0) flags

-- the names of those arguments that the command lacks
abbrev pub lacked_of : List (Text × List Verb) → Verb → List Text
lacked_of [] verb = []
lacked_of ((name, verbs) ∷ rest) verb =
    if has verbs verb then lacked_of rest verb else name ∷ lacked_of rest verb

abbrev pub lacked : Verb → List Text
lacked verb = lacked_of flags verb ++ lacked_of options verb

-- ---- what a line asks for

-- the words as texts
abbrev pub words_of : {Z : Type 0} → List (String Z) → List Text
words_of words = map (λ word. string_bytes word) words

-- the values that an argument was given
abbrev pub given_for : Text → List Row → List Text
given_for name given = unwrap_or (all_of name given) []

-- the paths that a command was given: the folder that it writes to, and then the paths that it reads
abbrev pub given_paths : List Row → List Text
given_paths given = given_for out_name given
    ++ (given_for source_name given ++ (given_for set_name given ++ given_for pile_name given))

-- the least number of paths that a command of this kind is given
abbrev pub least_paths : Verb → ℕ
least_paths Index = 1
least_paths Merge = 1
least_paths Withdraw = 2
least_paths Stage = 1
least_paths Publish = 1
least_paths Check = 1
least_paths ListSet = 1

-- the command reads one file-set, and writes nothing
abbrev pub OnlyReads : Verb → Type 0
OnlyReads Index = ⊥
OnlyReads Merge = ⊥
OnlyReads Withdraw = ⊥
OnlyReads Stage = ⊥
OnlyReads Publish = ⊥
OnlyReads Check = Unit {0}
OnlyReads ListSet = Unit {0}

-- the command makes something of sources, which are files, file-sets or piles
abbrev pub TakesSources : Verb → Type 0
TakesSources Index = Unit {0}
TakesSources Merge = Unit {0}
TakesSources Withdraw = ⊥
TakesSources Stage = Unit {0}
TakesSources Publish = Unit {0}
TakesSources Check = ⊥
TakesSources ListSet = ⊥

-- the number that the text of `--max-bytes` spells, or the greatest limit where it is not given
abbrev pub IsLimit : Option Text → ℕ → Type 0
IsLimit None limit = limit ≡ most_bytes
IsLimit (Some text) limit = IsSize text limit

-- the text spells no number of bytes that a limit may be
abbrev pub IsNoLimit : Text → Type 0
IsNoLimit text = (bytes : ℕ) → bytes ≤ most_bytes → ¬ IsSize text bytes

-- the line asks for the command that its words name, with the values that they give, and has each flag exactly where
-- they set it
pub record Asks (a : Asked) (command : Text) (given : List Row) : Type 0 where
  pub verb : verb_name a.verb ≡ command
  pub id : option_map string_bytes a.id ≡ first_of id_name given
  pub uid : option_map string_bytes a.uid ≡ first_of uid_name given
  pub max_bytes : IsLimit (first_of max_bytes_name given) a.max_bytes
  pub paths : words_of a.paths.items ≡ given_paths given
  pub uids : words_of a.uids.items ≡ given_for instance_name given
  pub keys : a.keys ≡ is_given keys_name given
  pub strict : a.strict ≡ is_given strict_name given
  pub dry_run : a.dry_run ≡ is_given dry_run_name given
  pub quiet : a.quiet ≡ is_given quiet_name given
  pub verbose : a.verbose ≡ is_given verbose_name given
  pub long : a.long ≡ is_given long_name given
  pub link : a.link ≡ is_given link_name given
  pub keep_going : a.keep_going ≡ is_given keep_going_name given
  pub json : a.json ≡ is_given json_name given
  pub files0_from : option_map string_bytes a.files0_from ≡ first_of files0_from_name given
  pub from : option_map string_bytes a.from ≡ first_of from_name given

-- the line gives the path of one file-set, no ID and no UID, and has the greatest limit
pub record AsksForOneSet (a : Asked) : Type 0 where
  pub id : a.id ≡ None
  pub uid : a.uid ≡ None
  pub max_bytes : a.max_bytes ≡ most_bytes
  pub paths : length a.paths.items ≡ 1
  pub uids : a.uids.items ≡ []

-- the line gives the folder that is written to, one file-set, and at least one image
pub record AsksToWithdraw (a : Asked) : Type 0 where
  pub paths : length a.paths.items ≡ 2
  pub uids : 1 ≤ length a.uids.items

-- the line gives what a pile is made of, and nothing that only a file-set has
pub record AsksToStage (a : Asked) : Type 0 where
  pub id : a.id ≡ None
  pub uid : a.uid ≡ None
  pub max_bytes : a.max_bytes ≡ most_bytes
  pub strict : a.strict ≡ false
  pub dry_run : a.dry_run ≡ false

-- the line has the paths that its command needs, and nothing that its command lacks
pub record FitsCommand (a : Asked) : Type 0 where
  pub paths : least_paths a.verb ≤ length a.paths.items
  pub set : OnlyReads a.verb → AsksForOneSet a
  pub withdraw : a.verb ≡ Withdraw → AsksToWithdraw a
  pub stage : a.verb ≡ Stage → AsksToStage a
  pub uids : a.verb ≢ Withdraw → a.uids.items ≡ []
  pub keys : a.verb ≢ Check → a.keys ≡ false
  pub strict : a.verb ≡ ListSet → a.strict ≡ false
  pub dry_run : OnlyReads a.verb → a.dry_run ≡ false
  pub quiet : a.verb ≡ ListSet → a.quiet ≡ false
  pub long : a.verb ≢ ListSet → a.long ≡ false
  pub link : a.verb ≢ Merge → a.verb ≢ Publish → a.link ≡ false
  pub keep_going : a.verb ≢ Index → a.verb ≢ Stage → a.keep_going ≡ false
  pub files0_from : ¬ TakesSources a.verb → a.files0_from ≡ None
  pub from : a.verb ≢ Stage → a.verb ≢ Publish → a.from ≡ None
  pub sources : TakesSources a.verb → a.files0_from ≡ None → 2 ≤ length a.paths.items

-- the command and the values are those of the command that the words name
abbrev pub IsAsked : Asked → Option (Text × List Row) → Type 0
IsAsked a None = ⊥
IsAsked a (Some (command, given)) = Asks a command given

-- the command that they name is `check`
abbrev pub IsCheck : Option (Text × List Row) → Type 0
IsCheck None = ⊥
IsCheck (Some (command, given)) = command ≡ verb_name Check

-- the command that they name is `check` or `list`, which write nothing
abbrev pub IsReading : Option (Text × List Row) → Type 0
IsReading None = ⊥
IsReading (Some (command, given)) = (command ≡ verb_name Check) ⊎ (command ≡ verb_name ListSet)

-- a command of this name takes sources
abbrev pub IsGatherer : Text → Type 0
IsGatherer command = (command ≡ verb_name Index) ⊎ ((command ≡ verb_name Merge)
    ⊎ ((command ≡ verb_name Stage) ⊎ (command ≡ verb_name Publish)))

-- the command that they name takes sources, and they give it none, and no file of names
abbrev pub LacksSources : Option (Text × List Row) → Type 0
LacksSources None = ⊥
LacksSources (Some (command, given)) = IsGatherer command
    × (given_for source_name given ≡ []) × (given_for set_name given ≡ []) × (given_for pile_name given ≡ [])
    × (first_of files0_from_name given ≡ None)

-- the words give the option of this name this value
abbrev pub GivesOption : Text → Option (Text × List Row) → Text → Type 0
GivesOption name None value = ⊥
GivesOption name (Some (command, given)) value = first_of name given ≡ Some value

-- the words give a wrong limit
abbrev pub HasBadLimit : Option (Text × List Row) → Type 0
HasBadLimit found = (text : Text) × GivesOption max_bytes_name found text × IsNoLimit text

-- the words give this among the UIDs of images
abbrev pub GivesInstance : Option (Text × List Row) → Text → Type 0
GivesInstance None uid = ⊥
GivesInstance (Some (command, given)) uid = Contains (given_for instance_name given) uid

-- the words give the file-set an ID or a UID of the wrong form, or give such a UID of an image
abbrev pub HasBadName : Option (Text × List Row) → Type 0
HasBadName found = ((id : Text) × GivesOption id_name found id × ¬ IsSetId id)
    ⊎ (((uid : Text) × GivesOption uid_name found uid × ¬ IsUid uid)
    ⊎ ((uid : Text) × GivesInstance found uid × ¬ IsUid uid))

-- a refusal is for lack of memory, or of one of these kinds
abbrev pub IsRefusedFor : Kinds → LineFault → Type 0
IsRefusedFor kinds (Refused e) = (kind_of e ≢ OutOfMemory) × IsAmong (kind_of e) kinds
IsRefusedFor kinds Memory = Unit {0}

-- a refusal says that an argument is missing
abbrev pub IsMissingArgument : LineFault → Type 0
IsMissingArgument (Refused e) = kind_of e ≡ MissingRequiredArgument
IsMissingArgument Memory = ⊥

-- a refusal says that a value is wrong
abbrev pub IsWrongValue : LineFault → Type 0
IsWrongValue (Refused e) = kind_of e ≡ ValueValidation
IsWrongValue Memory = ⊥

-- a refusal is for lack of memory, or says that a value is wrong or that an argument is missing, where it is so
abbrev pub IsRefusedWhere : Type 0 → Type 0 → LineFault → Type 0
IsRefusedWhere Wrong Lacks fault =
    (fault ≡ Memory) ⊎ ((Wrong × IsWrongValue fault) ⊎ (Lacks × IsMissingArgument fault))

-- the result is such a refusal, or no value is wrong and no argument is missing
abbrev pub RefusesWhere : {T : Type 0} → Type 0 → Type 0 → Result T LineFault → Type 0
RefusesWhere Wrong Lacks result = MatchResult result (λ _. ¬ Wrong × ¬ Lacks) (IsRefusedWhere Wrong Lacks)

-- words that the parser takes are refused for lack of memory, or since their limit is wrong, or since they give no source
abbrev pub PassesTaken : {T : Type 0} → List Text → Result T LineFault → Type 0
PassesTaken words result = IfErr result (λ fault. takes dicomdir_app words ≡ true
    → IsRefusedWhere (HasBadLimit (subcommand_of dicomdir_app words))
    (LacksSources (subcommand_of dicomdir_app words)) fault)

-- words are refused for a fault that the parser finds in them, or, where it finds none, since their limit is wrong, or
-- since they give no source
abbrev pub RefusesByKind : {T : Type 0} → List Text → Result T LineFault → Type 0
RefusesByKind words result = MatchResult result
    (λ _. (fault_of dicomdir_app words ≡ []) × ¬ HasBadLimit (subcommand_of dicomdir_app words)
    × ¬ LacksSources (subcommand_of dicomdir_app words))
    (λ fault. IsRefusedFor (fault_of dicomdir_app words) fault
    ⊎ ((fault_of dicomdir_app words ≡ []) × IsRefusedWhere (HasBadLimit (subcommand_of dicomdir_app words))
    (LacksSources (subcommand_of dicomdir_app words)) fault))

-- the fault of an error of the parser
abbrev pub IsFaultOf : Error → LineFault → Type 0
IsFaultOf e (Refused x) = (kind_of e ≢ OutOfMemory) × (x ≡ e)
IsFaultOf e Memory = kind_of e ≡ OutOfMemory

-- ---- what the building of the parser says

-- the argument has these rules, and belongs to its own command alone
pub record HasRule (r : Rule) (a : Arg) : Type 0 where
  pub rule : rule_of a ≡ r
  pub local : a.global ≡ false

-- the command is this one, and none of its arguments is passed on to other commands
pub record HasApp (x : App) (c : Command) : Type 0 where
  pub app : app_of c ≡ x
  pub local : (fields_of c).has_globals ≡ false
