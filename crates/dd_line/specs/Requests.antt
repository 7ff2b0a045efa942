-- What the words give each command, and the request that is made of it.
use Rattle.std.specs.Prelude.{◌≡◌, ◌≤◌, [], ◌∷◌, List, Option, Some, None, Bool, true, false, codes, length}
use Rattle.std.specs.Prelude.{Contains, String, option_and_then, option_map, string_bytes, ◌⊎◌}
use Rattle.std.specs.Option.{option_map_or}
use Rattle.std.specs.declared.alloc.Global.{Global}
use Rattle.std.specs.List.{find}
use Rattle.std.specs.Str.{bytes_eq}
use Rattle.clap.specs.Takes.{is_given}
use Rattle.clap.specs.Words.{Row, Text, first_of, one_of}
use Rattle.dd_elem.specs.SetId.{IsSetId}
use Rattle.dd_elem.specs.Uid.{IsUid}
use Rattle.dd_line.specs.Line as line
use Rattle.dd_line.specs.Line.{IsLimit, IsNoLimit, flag_names, given_for, given_paths, is_among, lacked, most_bytes}
use Rattle.dd_line.specs.Line.{verb_name, words_of}
use Rattle.dd_line.specs.declared.line.Asked.{Asked}
use Rattle.dd_line.specs.declared.line.Verb.{Verb}
use Rattle.dd_line.specs.declared.line.Verb.TheVariants.{Index, Merge, Withdraw, Stage, Publish, Check, List as ListSet}
use Rattle.dd_line.specs.declared.request.CheckRequest.{CheckRequest}
use Rattle.dd_line.specs.declared.request.IndexRequest.{IndexRequest}
use Rattle.dd_line.specs.declared.request.ListRequest.{ListRequest}
use Rattle.dd_line.specs.declared.request.MergeRequest.{MergeRequest}
use Rattle.dd_line.specs.declared.request.NewSet.{NewSet}
use Rattle.dd_line.specs.declared.request.PublishRequest.{PublishRequest}
use Rattle.dd_line.specs.declared.request.Request.{Request}
use Rattle.dd_line.specs.declared.request.Request.TheVariants.{Index as ToIndex, Merge as ToMerge, Withdraw as ToWithdraw}
use Rattle.dd_line.specs.declared.request.Request.TheVariants.{Stage as ToStage, Publish as ToPublish}
use Rattle.dd_line.specs.declared.request.Request.TheVariants.{Check as ToCheck, List as ToList}
use Rattle.dd_line.specs.declared.request.Sources.{Sources}
use Rattle.dd_line.specs.declared.request.StageRequest.{StageRequest}
use Rattle.dd_line.specs.declared.request.WithdrawRequest.{WithdrawRequest}

-- ---- what a command is given

-- the words say nothing under this name
abbrev pub IsAbsent : Text → List Row → Type 0
IsAbsent name given = find (λ r. bytes_eq r.id name) given ≡ None

-- they give the command nothing that it lacks
abbrev pub LacksOthers : Verb → List Row → Type 0
LacksOthers verb given = (name : Text) → is_among (lacked verb) name ≡ true → IsAbsent name given

-- the text of a flag is `true` where the flag is set. Where it is not set the text is `false`, or there is no text,
-- since the command has no such flag
abbrev pub IsFlagText : Bool → Option Text → Type 0
IsFlagText true text = text ≡ Some (codes "true")
IsFlagText false text = (text ≡ None) ⊎ (text ≡ Some (codes "false"))

-- the text of the flag of this name says whether the words set it
abbrev pub HasFlag : Text → List Row → Type 0
HasFlag name given = IsFlagText (is_given name given) (one_of name given)

-- the text of each flag says whether the words set it
abbrev pub HasFlags : List Row → Type 0
HasFlags given = (name : Text) → is_among flag_names name ≡ true → HasFlag name given

-- an argument was given one value
abbrev pub HasOne : Text → List Row → Type 0
HasOne name given = length (given_for name given) ≡ 1

-- the folders of a new file-set and of an old one were given, with at least one image
pub record GivesInstances (given : List Row) : Type 0 where
  pub out : HasOne line.out_name given
  pub set : HasOne line.set_name given
  pub instances : 1 ≤ length (given_for line.instance_name given)

-- a command of this kind was given the paths that it needs
abbrev pub GivesPaths : Verb → List Row → Type 0
GivesPaths Index given = HasOne line.out_name given
GivesPaths Merge given = HasOne line.out_name given
GivesPaths Withdraw given = GivesInstances given
GivesPaths Stage given = HasOne line.out_name given
GivesPaths Publish given = HasOne line.out_name given
GivesPaths Check given = HasOne line.set_name given
GivesPaths ListSet given = HasOne line.set_name given

-- it was given what it needs, and nothing that it lacks
pub record IsServed (verb : Verb) (given : List Row) : Type 0 where
  pub paths : GivesPaths verb given
  pub flags : HasFlags given
  pub others : LacksOthers verb given

-- the words name a command, and give it what it needs
abbrev pub NamesCommand : Option (Text × List Row) → Type 0
NamesCommand found = (verb : Verb) × (given : List Row) × (found ≡ Some (verb_name verb, given)) × IsServed verb given

-- ---- the request

-- this is the one value of the argument of this name
abbrev pub IsOnly : Text → List Row → Text → Type 0
IsOnly name given value = given_for name given ≡ value ∷ []

-- a new file-set is made as the words say
pub record MakesAsGiven (n : NewSet) (given : List Row) : Type 0 where
  pub out : IsOnly line.out_name given (string_bytes n.out)
  pub id : option_map string_bytes n.id ≡ first_of line.id_name given
  pub uid : option_map string_bytes n.uid ≡ first_of line.uid_name given
  pub max_bytes : IsLimit (first_of line.max_bytes_name given) n.max_bytes
  pub strict : n.strict ≡ is_given line.strict_name given
  pub dry_run : n.dry_run ≡ is_given line.dry_run_name given
  pub quiet : n.quiet ≡ is_given line.quiet_name given
  pub verbose : n.verbose ≡ is_given line.verbose_name given
  pub json : n.json ≡ is_given line.json_name given

-- the sources are as the words give them, under this name and in a file of names
pub record HasSources (name : Text) (given : List Row) (s : Sources) : Type 0 where
  pub words : words_of s.words.items ≡ given_for name given
  pub files0_from : option_map string_bytes s.files0_from ≡ first_of line.files0_from_name given

-- the words give a wrong limit
abbrev pub GivesNoLimit : List Row → Type 0
GivesNoLimit given = (text : Text) × (first_of line.max_bytes_name given ≡ Some text) × IsNoLimit text

-- the words give no source
pub record GivesNoSource (name : Text) (given : List Row) : Type 0 where
  pub words : given_for name given ≡ []
  pub files0_from : first_of line.files0_from_name given ≡ None

-- each field of a request, by its command, is what the words give
pub record IndexesAsGiven (x : IndexRequest) (given : List Row) : Type 0 where
  pub new_set : MakesAsGiven x.new_set given
  pub sources : HasSources line.source_name given x.sources
  pub keep_going : x.keep_going ≡ is_given line.keep_going_name given

pub record MergesAsGiven (x : MergeRequest) (given : List Row) : Type 0 where
  pub new_set : MakesAsGiven x.new_set given
  pub sets : HasSources line.set_name given x.sets
  pub link : x.link ≡ is_given line.link_name given

pub record WithdrawsAsGiven (x : WithdrawRequest) (given : List Row) : Type 0 where
  pub new_set : MakesAsGiven x.new_set given
  pub set : IsOnly line.set_name given (string_bytes x.set)
  pub instances : words_of x.instances.items ≡ given_for line.instance_name given

pub record StagesAsGiven (x : StageRequest) (given : List Row) : Type 0 where
  pub pile : IsOnly line.out_name given (string_bytes x.pile)
  pub sources : HasSources line.source_name given x.sources
  pub from : option_map string_bytes x.from ≡ first_of line.from_name given
  pub keep_going : x.keep_going ≡ is_given line.keep_going_name given
  pub quiet : x.quiet ≡ is_given line.quiet_name given
  pub verbose : x.verbose ≡ is_given line.verbose_name given
  pub json : x.json ≡ is_given line.json_name given

pub record PublishesAsGiven (x : PublishRequest) (given : List Row) : Type 0 where
  pub new_set : MakesAsGiven x.new_set given
  pub piles : HasSources line.pile_name given x.piles
  pub from : option_map string_bytes x.from ≡ first_of line.from_name given
  pub link : x.link ≡ is_given line.link_name given

pub record ChecksAsGiven (x : CheckRequest) (given : List Row) : Type 0 where
  pub set : IsOnly line.set_name given (string_bytes x.set)
  pub keys : x.keys ≡ is_given line.keys_name given
  pub strict : x.strict ≡ is_given line.strict_name given
  pub quiet : x.quiet ≡ is_given line.quiet_name given
  pub verbose : x.verbose ≡ is_given line.verbose_name given
  pub json : x.json ≡ is_given line.json_name given

pub record ListsAsGiven (x : ListRequest) (given : List Row) : Type 0 where
  pub set : IsOnly line.set_name given (string_bytes x.set)
  pub long : x.long ≡ is_given line.long_name given
  pub verbose : x.verbose ≡ is_given line.verbose_name given
  pub json : x.json ≡ is_given line.json_name given

-- the command of a request
abbrev pub verb_of : Request → Verb
verb_of (ToIndex x) = Index
verb_of (ToMerge x) = Merge
verb_of (ToWithdraw x) = Withdraw
verb_of (ToStage x) = Stage
verb_of (ToPublish x) = Publish
verb_of (ToCheck x) = Check
verb_of (ToList x) = ListSet

-- the request is made as the words say
abbrev pub IsAsGiven : Request → List Row → Type 0
IsAsGiven (ToIndex x) given = IndexesAsGiven x given
IsAsGiven (ToMerge x) given = MergesAsGiven x given
IsAsGiven (ToWithdraw x) given = WithdrawsAsGiven x given
IsAsGiven (ToStage x) given = StagesAsGiven x given
IsAsGiven (ToPublish x) given = PublishesAsGiven x given
IsAsGiven (ToCheck x) given = ChecksAsGiven x given
IsAsGiven (ToList x) given = ListsAsGiven x given

-- the request is of this command and has what the words give it, which is nothing that the command lacks
pub record Requests (r : Request) (command : Text) (given : List Row) : Type 0 where
  pub verb : verb_name (verb_of r) ≡ command
  pub values : IsAsGiven r given
  pub others : LacksOthers (verb_of r) given

-- the request is of the command that the words name, with what they give it
abbrev pub IsRequested : Request → Option (Text × List Row) → Type 0
IsRequested r None = ⊥
IsRequested r (Some (command, given)) = Requests r command given

-- ---- the request as a line

-- the line asks for this new file-set, with these paths to read
pub record AsksToMake (n : NewSet) (read : List Text) (a : Asked) : Type 0 where
  pub id : a.id ≡ n.id
  pub uid : a.uid ≡ n.uid
  pub max_bytes : a.max_bytes ≡ n.max_bytes
  pub paths : words_of a.paths.items ≡ string_bytes n.out ∷ read
  pub keys : a.keys ≡ false
  pub strict : a.strict ≡ n.strict
  pub dry_run : a.dry_run ≡ n.dry_run
  pub quiet : a.quiet ≡ n.quiet
  pub verbose : a.verbose ≡ n.verbose
  pub long : a.long ≡ false
  pub json : a.json ≡ n.json

-- the line asks to read this file-set, and nothing else but by its flags
pub record AsksToRead (set : Text) (a : Asked) : Type 0 where
  pub id : a.id ≡ None
  pub uid : a.uid ≡ None
  pub max_bytes : a.max_bytes ≡ most_bytes
  pub paths : words_of a.paths.items ≡ set ∷ []
  pub uids : a.uids.items ≡ []
  pub dry_run : a.dry_run ≡ false
  pub link : a.link ≡ false
  pub keep_going : a.keep_going ≡ false
  pub files0_from : a.files0_from ≡ None
  pub from : a.from ≡ None

-- ---- the parts of a request

-- the file-set that it makes, if it makes one
abbrev pub new_set_of : Request → Option NewSet
new_set_of (ToIndex x) = Some x.new_set
new_set_of (ToMerge x) = Some x.new_set
new_set_of (ToWithdraw x) = Some x.new_set
new_set_of (ToStage x) = None
new_set_of (ToPublish x) = Some x.new_set
new_set_of (ToCheck x) = None
new_set_of (ToList x) = None

-- the folder that it writes to, if it writes
abbrev pub written_of : Request → Option (String Global)
written_of (ToIndex x) = Some x.new_set.out
written_of (ToMerge x) = Some x.new_set.out
written_of (ToWithdraw x) = Some x.new_set.out
written_of (ToStage x) = Some x.pile
written_of (ToPublish x) = Some x.new_set.out
written_of (ToCheck x) = None
written_of (ToList x) = None

-- the paths of the line that it reads
abbrev pub read_of : Request → List (String Global)
read_of (ToIndex x) = x.sources.words.items
read_of (ToMerge x) = x.sets.words.items
read_of (ToWithdraw x) = x.set ∷ []
read_of (ToStage x) = x.sources.words.items
read_of (ToPublish x) = x.piles.words.items
read_of (ToCheck x) = x.set ∷ []
read_of (ToList x) = x.set ∷ []

-- the SOP Instance UIDs that it withdraws
abbrev pub instances_of : Request → List (String Global)
instances_of (ToIndex x) = []
instances_of (ToMerge x) = []
instances_of (ToWithdraw x) = x.instances.items
instances_of (ToStage x) = []
instances_of (ToPublish x) = []
instances_of (ToCheck x) = []
instances_of (ToList x) = []

-- whether images get hard links in place of copies
abbrev pub links : Request → Bool
links (ToIndex x) = false
links (ToMerge x) = x.link
links (ToWithdraw x) = false
links (ToStage x) = false
links (ToPublish x) = x.link
links (ToCheck x) = false
links (ToList x) = false

-- whether it goes on past sources that can't be opened or read
abbrev pub keeps_going : Request → Bool
keeps_going (ToIndex x) = x.keep_going
keeps_going (ToMerge x) = false
keeps_going (ToWithdraw x) = false
keeps_going (ToStage x) = x.keep_going
keeps_going (ToPublish x) = false
keeps_going (ToCheck x) = false
keeps_going (ToList x) = false

-- whether each line is printed as a JSON object
abbrev pub is_json : Request → Bool
is_json (ToIndex x) = x.new_set.json
is_json (ToMerge x) = x.new_set.json
is_json (ToWithdraw x) = x.new_set.json
is_json (ToStage x) = x.json
is_json (ToPublish x) = x.new_set.json
is_json (ToCheck x) = x.json
is_json (ToList x) = x.json

-- the ID and the UID of the file-set that it makes
abbrev pub id_of : Request → Option Text
id_of r = option_and_then (λ n. option_map string_bytes n.id) (new_set_of r)

abbrev pub uid_of : Request → Option Text
uid_of r = option_and_then (λ n. option_map string_bytes n.uid) (new_set_of r)

-- the folder that it writes to, or else an empty path
abbrev pub folder_of : Request → Text
folder_of r = option_map_or string_bytes (written_of r) []

-- whether it is planned alone
abbrev pub is_dry : Request → Bool
is_dry r = option_map_or (λ n. n.dry_run) (new_set_of r) false

-- all paths of the line: the folder that it writes to, and then the paths that it reads
abbrev pub paths_of : Request → List (String Global)
paths_of r = option_map_or (λ folder. folder ∷ read_of r) (written_of r) (read_of r)

-- the request has an ID or a UID of the wrong form, or withdraws such a UID
abbrev pub RequestsBadName : Request → Type 0
RequestsBadName r = ((id : Text) × (id_of r ≡ Some id) × ¬ IsSetId id)
    ⊎ (((uid : Text) × (uid_of r ≡ Some uid) × ¬ IsUid uid)
    ⊎ ((uid : Text) × Contains (words_of (instances_of r)) uid × ¬ IsUid uid))

-- these parts are what the words give
pub record SaysParts (r : Request) (command : Text) (given : List Row) : Type 0 where
  pub verb : verb_name (verb_of r) ≡ command
  pub id : id_of r ≡ first_of line.id_name given
  pub uid : uid_of r ≡ first_of line.uid_name given
  pub paths : words_of (paths_of r) ≡ given_paths given
  pub instances : words_of (instances_of r) ≡ given_for line.instance_name given
  pub dry_run : is_dry r ≡ is_given line.dry_run_name given
  pub link : links r ≡ is_given line.link_name given
  pub keep_going : keeps_going r ≡ is_given line.keep_going_name given
  pub json : is_json r ≡ is_given line.json_name given
