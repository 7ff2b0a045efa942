-- What a request makes is what the words of its line say.
use Rattle.std.proofs.Common.{◌≡◌, ◌≢◌, ◌≤◌, ◌∙◌, ℕ, List, Option, None, Some, Result, Ok, Err, IfOk, arith, inl, inr}
use Rattle.std.proofs.Common.{[], ◌∷◌, Bool, String, ap, ap₂, false, get_or, refl, string_bytes, subst, sym, true}
use Rattle.std.specs.Prelude.{◌⊎◌, option_map, unwrap_or}
use Rattle.std.specs.declared.alloc.Global.{Global}
use Rattle.clap.specs.Takes.{is_given}
use Rattle.clap.specs.Words.{Row, Text, first_of}
use Rattle.dd_elem.specs.declared.device.Write.{Ghosts as WriteOf}
use Rattle.dd_engine.specs.declared.choice.Choice.{Choice}
use Rattle.dd_files.specs.Files.{Held}
use Rattle.dd_line.specs.Line.{files0_from_name, from_name, json_name, keep_going_name, verb_name, words_of}
use Rattle.dd_line.specs.Requests.{IsRequested, id_of, instances_of, uid_of, verb_of}
use Rattle.dd_line.specs.declared.line.Verb.TheVariants as verbs
use Rattle.dd_line.specs.declared.request.PublishRequest.{PublishRequest}
use Rattle.dd_line.specs.declared.request.Request.{Request}
use Rattle.dd_line.specs.declared.request.Request.TheVariants.{Check, Index, List as ListSet, Merge, Publish, Stage, Withdraw}
use Rattle.dd_line.specs.declared.request.StageRequest.{StageRequest}
use Rattle.dd_inputs.specs.From.{from_text, looked_up, looked_up_list}
use Rattle.dicomdir.specs.Indexes.{DoneIndexes, IsIndexStatus, MakesIndex}
use Rattle.dd_inputs.specs.ListedNames.{AreSources}
use Rattle.dd_refusals.specs.Styles.{style_by}
use Rattle.dicomdir.specs.Lines.{IndexesLine, IsIndex, IsMerge, IsPublish, IsStage, IsWithdraw, MergesLine}
use Rattle.dicomdir.specs.Lines.{PublishesLine, StagesLine, WithdrawsLine, list_in}
use Rattle.dicomdir.specs.Done.{IsDone}
use Rattle.dicomdir.specs.Merges.{DoneMerges, MakesMerge}
use Rattle.dicomdir.specs.Names.{choice_by}
use Rattle.dicomdir.specs.Publishes.{DonePublishes, MakesPublish}
use Rattle.dicomdir.specs.Stages.{Stages}
use Rattle.dicomdir.specs.Words.{IsStatusOf, MakesRequested, StagesRequested}

-- ---- a command that is done

pub unlike_one : (status : ℕ) → IsDone status → status ≢ 1
unlike_one status (inl zero) one = absurd (omega (arith, zero, one))
unlike_one status (inr three) one = absurd (omega (arith, three, one))

pub index_done : {E : Type 0} (r : Result ℕ E) (choice : Choice) (bytes : ℕ) (sources : List (List ℕ))
    (folder : List ℕ) (old new : Option Held) → DoneIndexes r choice bytes sources folder old new
    → IfOk r (λ status. IsDone status → MakesIndex choice bytes sources folder status old new)
index_done (Ok status) choice bytes sources folder old new made = λ done. made (unlike_one status done)
index_done (Err refusal) choice bytes sources folder old new made = tt

pub zero_of_two : (status : ℕ) → status ≤ 1 → IsDone status → status ≡ 0
zero_of_two status few (inl zero) = zero
zero_of_two status few (inr three) = absurd (omega (arith, three, few))

pub merge_done : {E : Type 0} (r : Result ℕ E) (choice : Choice) (bytes : ℕ) (given folders : List (List ℕ))
    (GivesLinks : Type 0) (folder : List ℕ) (old new : Option Held) → IfOk r (λ status. status ≤ 1)
    → DoneMerges r choice bytes given folders GivesLinks folder old new
    → IfOk r (λ status. IsDone status → MakesMerge choice bytes given folders GivesLinks folder old new)
merge_done (Ok status) choice bytes given folders GivesLinks folder old new few made =
    λ done. made (zero_of_two status few done)
merge_done (Err refusal) choice bytes given folders GivesLinks folder old new few made = tt

pub publish_done : {E : Type 0} (r : Result ℕ E) (choice : Choice) (bytes : ℕ) (piles : List (List ℕ))
    (GivesLinks : Type 0) (folder : List ℕ) (old new : Option Held)
    → DonePublishes r choice bytes piles GivesLinks folder old new
    → IfOk r (λ status. IsDone status → MakesPublish choice bytes piles GivesLinks folder status old new)
publish_done (Ok status) choice bytes piles GivesLinks folder old new made = λ done. made (unlike_one status done)
publish_done (Err refusal) choice bytes piles GivesLinks folder old new made = tt

-- `publish` may end with these
pub publish_status : {E : Type 0} (r : Result ℕ E) (x : PublishRequest)
    → IfOk r (λ status. (status ≤ 1) ⊎ (status ≡ 3)) → IfOk r (λ status. IsStatusOf (Publish x) status)
publish_status (Ok status) x ends = elim ends [
  | inl few ↦ inl few
  | inr three ↦ inr (three, inr (inr refl))
]
publish_status (Err refusal) x ends = tt

either : {A : Type 0} (is : Bool) → (is ≡ false → A) → A ⊎ (is ≡ true)
either true otherwise = inr refl
either false otherwise = inl (otherwise refl)

-- so may `stage`, where names that are not UTF-8 are there only if it keeps going
stage_ends : {E : Type 0} (r : Result ℕ E) (x : StageRequest) → IfOk r (IsIndexStatus x.keep_going)
    → IfOk r (λ status. IsStatusOf (Stage x) status)
stage_ends (Ok status) x ends = elim ends [
  | inl few ↦ inl few
  | inr past ↦ inr (past.0, inr (inl past.1))
]
stage_ends (Err refusal) x ends = tt

pub stage_status : {E : Type 0} (r : Result ℕ E) (x : StageRequest) (bad : List ℕ) → (x.keep_going ≡ false → bad ≡ [])
    → ((bad ≡ []) ⊎ (x.keep_going ≡ true) → IfOk r (IsIndexStatus x.keep_going))
    → IfOk r (λ status. IsStatusOf (Stage x) status)
stage_status r x bad none ends = stage_ends r x (ends (either x.keep_going none))

-- ---- by the words of its line

-- what a request makes under the label of its line, without the instances that it withdraws
abbrev pub MakesAsked : Request → ℕ → Option Held → Option Held → Type 0
MakesAsked r status old new =
    MakesRequested r (choice_by (id_of r) (uid_of r)) (words_of (instances_of r)) status old new

-- the names of two commands begin with letters of their own
pub unlike : {A : Type 0} (one other : Text) → one ≡ other → ¬ (get_or one 0 0 ≡ get_or other 0 0) → A
unlike one other same apart = absurd (apart (ap (λ (name : Text). get_or name 0 0) same))

pub given_index : (r : Request) (found : Option (Text × List Row)) (status : ℕ) (old new : Option Held)
    → IsRequested r found → IsIndex found → MakesAsked r status old new → IndexesLine found status old new
given_index r None status old new h names made = absurd h
given_index (Index x) (Some (command, given)) status old new h names made =
    let new_set = h.values.new_set in
    let are : AreSources x.keep_going (option_map string_bytes x.sources.files0_from)
    (words_of x.sources.words.items) old made.sources = made.are in
    let makes : MakesIndex (choice_by (option_map string_bytes x.new_set.id) (option_map string_bytes x.new_set.uid))
    x.new_set.max_bytes made.sources (string_bytes x.new_set.out) status old new = made.made in
    record {
      folder = string_bytes x.new_set.out;
      bytes = x.new_set.max_bytes;
      new_set = record { out = new_set.out; limit = new_set.max_bytes };
      sources = made.sources;
      are = rw (h.values.keep_going, h.values.sources.files0_from, h.values.sources.words) at are;
      made = rw (new_set.id, new_set.uid) at makes;
    }
given_index (Merge x) (Some (command, given)) status old new h names made =
    unlike (verb_name verbs.Merge) (verb_name verbs.Index) (h.verb ∙ names) (λ (e : 109 ≡ 105). omega (arith, e))
given_index (Withdraw x) (Some (command, given)) status old new h names made =
    unlike (verb_name verbs.Withdraw) (verb_name verbs.Index) (h.verb ∙ names) (λ (e : 119 ≡ 105). omega (arith, e))
given_index (Stage x) (Some (command, given)) status old new h names made =
    unlike (verb_name verbs.Stage) (verb_name verbs.Index) (h.verb ∙ names) (λ (e : 115 ≡ 105). omega (arith, e))
given_index (Publish x) (Some (command, given)) status old new h names made =
    unlike (verb_name verbs.Publish) (verb_name verbs.Index) (h.verb ∙ names) (λ (e : 112 ≡ 105). omega (arith, e))
given_index (Check x) (Some (command, given)) status old new h names made =
    unlike (verb_name verbs.Check) (verb_name verbs.Index) (h.verb ∙ names) (λ (e : 99 ≡ 105). omega (arith, e))
given_index (ListSet x) (Some (command, given)) status old new h names made =
    unlike (verb_name verbs.List) (verb_name verbs.Index) (h.verb ∙ names) (λ (e : 108 ≡ 105). omega (arith, e))

pub given_merge : (r : Request) (found : Option (Text × List Row)) (status : ℕ) (old new : Option Held)
    → IsRequested r found → IsMerge found → MakesAsked r status old new → MergesLine found old new
given_merge r None status old new h names made = absurd h
given_merge (Merge x) (Some (command, given)) status old new h names made =
    let new_set = h.values.new_set in
    let are : AreSources false (option_map string_bytes x.sets.files0_from) (words_of x.sets.words.items) old
    made.sources = made.are in
    let makes : MakesMerge (choice_by (option_map string_bytes x.new_set.id) (option_map string_bytes x.new_set.uid))
    x.new_set.max_bytes [] made.sources (x.link ≡ true) (string_bytes x.new_set.out) old new = made.made in
    record {
      folder = string_bytes x.new_set.out;
      bytes = x.new_set.max_bytes;
      new_set = record { out = new_set.out; limit = new_set.max_bytes };
      folders = made.sources;
      are = rw (h.values.sets.files0_from, h.values.sets.words) at are;
      made = rw (new_set.id, new_set.uid, h.values.link) at makes;
    }
given_merge (Index x) (Some (command, given)) status old new h names made =
    unlike (verb_name verbs.Index) (verb_name verbs.Merge) (h.verb ∙ names) (λ (e : 105 ≡ 109). omega (arith, e))
given_merge (Withdraw x) (Some (command, given)) status old new h names made =
    unlike (verb_name verbs.Withdraw) (verb_name verbs.Merge) (h.verb ∙ names) (λ (e : 119 ≡ 109). omega (arith, e))
given_merge (Stage x) (Some (command, given)) status old new h names made =
    unlike (verb_name verbs.Stage) (verb_name verbs.Merge) (h.verb ∙ names) (λ (e : 115 ≡ 109). omega (arith, e))
given_merge (Publish x) (Some (command, given)) status old new h names made =
    unlike (verb_name verbs.Publish) (verb_name verbs.Merge) (h.verb ∙ names) (λ (e : 112 ≡ 109). omega (arith, e))
given_merge (Check x) (Some (command, given)) status old new h names made =
    unlike (verb_name verbs.Check) (verb_name verbs.Merge) (h.verb ∙ names) (λ (e : 99 ≡ 109). omega (arith, e))
given_merge (ListSet x) (Some (command, given)) status old new h names made =
    unlike (verb_name verbs.List) (verb_name verbs.Merge) (h.verb ∙ names) (λ (e : 108 ≡ 109). omega (arith, e))

pub given_withdraw : (r : Request) (found : Option (Text × List Row)) (status : ℕ) (old new : Option Held)
    → IsRequested r found → IsWithdraw found → MakesAsked r status old new → WithdrawsLine found old new
given_withdraw r None status old new h names made = absurd h
given_withdraw (Withdraw x) (Some (command, given)) status old new h names made =
    let new_set = h.values.new_set in
    let makes : MakesMerge (choice_by (option_map string_bytes x.new_set.id) (option_map string_bytes x.new_set.uid))
    x.new_set.max_bytes (words_of x.instances.items) (string_bytes x.set ∷ []) ⊥ (string_bytes x.new_set.out) old
    new = made.made in
    record {
      folder = string_bytes x.new_set.out;
      bytes = x.new_set.max_bytes;
      new_set = record { out = new_set.out; limit = new_set.max_bytes };
      made = rw (new_set.id, new_set.uid, h.values.instances, ← h.values.set) at makes;
    }
given_withdraw (Index x) (Some (command, given)) status old new h names made =
    unlike (verb_name verbs.Index) (verb_name verbs.Withdraw) (h.verb ∙ names) (λ (e : 105 ≡ 119). omega (arith, e))
given_withdraw (Merge x) (Some (command, given)) status old new h names made =
    unlike (verb_name verbs.Merge) (verb_name verbs.Withdraw) (h.verb ∙ names) (λ (e : 109 ≡ 119). omega (arith, e))
given_withdraw (Stage x) (Some (command, given)) status old new h names made =
    unlike (verb_name verbs.Stage) (verb_name verbs.Withdraw) (h.verb ∙ names) (λ (e : 115 ≡ 119). omega (arith, e))
given_withdraw (Publish x) (Some (command, given)) status old new h names made =
    unlike (verb_name verbs.Publish) (verb_name verbs.Withdraw) (h.verb ∙ names) (λ (e : 112 ≡ 119). omega (arith, e))
given_withdraw (Check x) (Some (command, given)) status old new h names made =
    unlike (verb_name verbs.Check) (verb_name verbs.Withdraw) (h.verb ∙ names) (λ (e : 99 ≡ 119). omega (arith, e))
given_withdraw (ListSet x) (Some (command, given)) status old new h names made =
    unlike (verb_name verbs.List) (verb_name verbs.Withdraw) (h.verb ∙ names) (λ (e : 108 ≡ 119). omega (arith, e))

-- ---- where a path of the line is looked up

-- the folder that a line gives
pub from_is : (from : Option (String Global)) (given : Option Text) → option_map string_bytes from ≡ given
    → from_text from ≡ unwrap_or given []
from_is from given is = subst (λ (text : Option Text). from_text from ≡ unwrap_or text []) is (go from)
  where
    go : (o : Option (String Global)) → from_text o ≡ unwrap_or (option_map string_bytes o) []
    go None = refl
    go (Some text) = refl

list_looked : (from : Text) (list : Option (String Global))
    → option_map (λ (name : String Global). looked_up_list from (string_bytes name)) list
    ≡ option_map (looked_up_list from) (option_map string_bytes list)
list_looked from None = refl
list_looked from (Some name) = refl

-- the list of names
pub list_is : (from list : Option (String Global)) (given : List Row)
    → option_map string_bytes from ≡ first_of from_name given
    → option_map string_bytes list ≡ first_of files0_from_name given
    → option_map (λ (name : String Global). looked_up_list (from_text from) (string_bytes name)) list ≡ list_in given
list_is from list given from_given list_given =
    list_looked (from_text from) list
    ∙ ap₂ (λ (folder : Text) (name : Option Text). option_map (looked_up_list folder) name)
    (from_is from (first_of from_name given) from_given) list_given

pub sources_as : (keeps_going : Bool) (list other : Option Text) (words others : List Text) (files : Option Held)
    (all : List Text) → list ≡ other → words ≡ others → AreSources keeps_going list words files all
    → AreSources keeps_going other others files all
sources_as keeps_going list other words others files all same_list same_words are =
    subst (λ (xs : List Text). AreSources keeps_going other xs files all) same_words
    (subst (λ (path : Option Text). AreSources keeps_going path words files all) same_list are)

-- ---- piles

-- a request is of `publish` where the words name it
pub requested_publish : (r : Request) (found : Option (Text × List Row)) → IsRequested r found
    → verb_of r ≡ verbs.Publish → IsPublish found
requested_publish r None h is = absurd h
requested_publish r (Some (command, given)) h is = sym h.verb ∙ ap verb_name is

pub given_publish : (r : Request) (found : Option (Text × List Row)) (status : ℕ) (old new : Option Held)
    → IsRequested r found → IsPublish found → MakesAsked r status old new → PublishesLine found status old new
given_publish r None status old new h names made = absurd h
given_publish (Publish x) (Some (command, given)) status old new h names made =
    let new_set = h.values.new_set in
    let from = from_is x.from (first_of from_name given) h.values.from in
    let out = string_bytes x.new_set.out in
    let makes : MakesPublish (choice_by (option_map string_bytes x.new_set.id) (option_map string_bytes x.new_set.uid))
    x.new_set.max_bytes made.sources (x.link ≡ true) (looked_up (from_text x.from) out) status old new = made.made in
    record {
      folder = out;
      bytes = x.new_set.max_bytes;
      new_set = record { out = new_set.out; limit = new_set.max_bytes };
      piles = made.sources;
      are = sources_as false _ _ _ _ old made.sources (list_is x.from x.piles.files0_from given h.values.from
          h.values.piles.files0_from) h.values.piles.words made.are;
      made = rw (new_set.id, new_set.uid, h.values.link, from) at makes;
    }
given_publish (Index x) (Some (command, given)) status old new h names made =
    unlike (verb_name verbs.Index) (verb_name verbs.Publish) (h.verb ∙ names) (λ (e : 105 ≡ 112). omega (arith, e))
given_publish (Merge x) (Some (command, given)) status old new h names made =
    unlike (verb_name verbs.Merge) (verb_name verbs.Publish) (h.verb ∙ names) (λ (e : 109 ≡ 112). omega (arith, e))
given_publish (Withdraw x) (Some (command, given)) status old new h names made =
    unlike (verb_name verbs.Withdraw) (verb_name verbs.Publish) (h.verb ∙ names) (λ (e : 119 ≡ 112). omega (arith, e))
given_publish (Stage x) (Some (command, given)) status old new h names made =
    unlike (verb_name verbs.Stage) (verb_name verbs.Publish) (h.verb ∙ names) (λ (e : 115 ≡ 112). omega (arith, e))
given_publish (Check x) (Some (command, given)) status old new h names made =
    unlike (verb_name verbs.Check) (verb_name verbs.Publish) (h.verb ∙ names) (λ (e : 99 ≡ 112). omega (arith, e))
given_publish (ListSet x) (Some (command, given)) status old new h names made =
    unlike (verb_name verbs.List) (verb_name verbs.Publish) (h.verb ∙ names) (λ (e : 108 ≡ 112). omega (arith, e))

staged_as : {W : Type 0} (writer : WriteOf W) (pile : Text) (names : List Text) (status : ℕ) (files made : Option Held)
    (old new : W) (json other_json keeps other_keeps : Bool) (from other : Text) → json ≡ other_json
    → keeps ≡ other_keeps → from ≡ other
    → Stages writer (style_by json) keeps from pile names status files made old new
    → Stages writer (style_by other_json) other_keeps other pile names status files made old new
staged_as writer pile names status files made old new json other_json keeps other_keeps from other same_json same_keeps
    same staged =
    subst (λ (is : Bool). Stages writer (style_by is) other_keeps other pile names status files made old new) same_json
    (subst (λ (goes : Bool). Stages writer (style_by json) goes other pile names status files made old new) same_keeps
    (subst (λ (folder : Text). Stages writer (style_by json) keeps folder pile names status files made old new) same
    staged))

pub given_stage : {W : Type 0} (writer : WriteOf W) (r : Request) (found : Option (Text × List Row)) (status : ℕ)
    (files made : Option Held) (old new : W) → IsRequested r found → IsStage found
    → StagesRequested writer r status files made old new → StagesLine writer found status files made old new
given_stage writer r None status files made old new h names staged = absurd h
given_stage writer (Stage x) (Some (command, given)) status files made old new h names staged =
    let from = from_is x.from (first_of from_name given) h.values.from in
    record {
      pile = string_bytes x.pile;
      place = h.values.pile;
      names = staged.names;
      are = rw h.values.keep_going at
          (sources_as x.keep_going _ _ _ _ files staged.names (list_is x.from x.sources.files0_from given h.values.from
          h.values.sources.files0_from) h.values.sources.words staged.are);
      staged = staged_as writer (string_bytes x.pile) staged.names status files made old new x.json
          (is_given json_name given) x.keep_going (is_given keep_going_name given) _ _ h.values.json h.values.keep_going
          from staged.staged;
    }
given_stage writer (Index x) (Some (command, given)) status files made old new h names staged =
    unlike (verb_name verbs.Index) (verb_name verbs.Stage) (h.verb ∙ names) (λ (e : 105 ≡ 115). omega (arith, e))
given_stage writer (Merge x) (Some (command, given)) status files made old new h names staged =
    unlike (verb_name verbs.Merge) (verb_name verbs.Stage) (h.verb ∙ names) (λ (e : 109 ≡ 115). omega (arith, e))
given_stage writer (Withdraw x) (Some (command, given)) status files made old new h names staged =
    unlike (verb_name verbs.Withdraw) (verb_name verbs.Stage) (h.verb ∙ names) (λ (e : 119 ≡ 115). omega (arith, e))
given_stage writer (Publish x) (Some (command, given)) status files made old new h names staged =
    unlike (verb_name verbs.Publish) (verb_name verbs.Stage) (h.verb ∙ names) (λ (e : 112 ≡ 115). omega (arith, e))
given_stage writer (Check x) (Some (command, given)) status files made old new h names staged =
    unlike (verb_name verbs.Check) (verb_name verbs.Stage) (h.verb ∙ names) (λ (e : 99 ≡ 115). omega (arith, e))
given_stage writer (ListSet x) (Some (command, given)) status files made old new h names staged =
    unlike (verb_name verbs.List) (verb_name verbs.Stage) (h.verb ∙ names) (λ (e : 108 ≡ 115). omega (arith, e))
