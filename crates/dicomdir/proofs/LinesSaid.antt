-- What a request prints is what the words of its line ask for.
use Rattle.std.proofs.Common.{◌≡◌, ◌≢◌, ◌≤◌, ◌∙◌, ℕ, List, Option, None, Some, Result, Ok, Err, IfOk, arith, Bool}
use Rattle.std.proofs.Common.{[], ◌∷◌, ap₂, false, string_bytes, subst, sym}
use Rattle.std.specs.Prelude.{option_map}
use Rattle.clap.specs.Takes.{is_given}
use Rattle.clap.specs.Words.{Row, Text}
use Rattle.dd_elem.specs.declared.device.Write.{Ghosts as WriteOf}
use Rattle.dd_engine.specs.declared.choice.Choice.{Choice}
use Rattle.dd_files.specs.Files.{Held}
use Rattle.dd_json.specs.declared.value.Style.{Style}
use Rattle.dd_line.specs.Line.{dry_run_name, given_for, instance_name, json_name, keep_going_name, set_name}
use Rattle.dd_line.specs.Line.{strict_name, verb_name, words_of}
use Rattle.dd_line.specs.Requests.{IsRequested, Requests, id_of, instances_of, uid_of}
use Rattle.dd_line.specs.declared.line.Verb.TheVariants as verbs
use Rattle.dd_line.specs.declared.request.IndexRequest.{IndexRequest}
use Rattle.dd_line.specs.declared.request.MergeRequest.{MergeRequest}
use Rattle.dd_line.specs.declared.request.PublishRequest.{PublishRequest}
use Rattle.dd_line.specs.declared.request.Request.{Request}
use Rattle.dd_line.specs.declared.request.Request.TheVariants.{Check, Index, List as ListSet, Merge, Publish, Stage, Withdraw}
use Rattle.dd_line.specs.declared.request.WithdrawRequest.{WithdrawRequest}
use Rattle.dicomdir.proofs.LinesMade.{list_is, sources_as, unlike, unlike_one, zero_of_two}
use Rattle.dd_refusals.specs.Styles.{style_by}
use Rattle.dd_inputs.specs.ListedNames.{AreSources}
use Rattle.dicomdir.specs.Lines.{IndexSays, IsIndex, IsMerge, IsPublish, IsWithdraw, MergeSays, PublishSays}
use Rattle.dicomdir.specs.Lines.{SaysOfPiles, SaysOfSet, SaysOfSets, SaysOfSources, WithdrawSays, choice_of}
use Rattle.dicomdir.specs.Done.{IsDone}
use Rattle.dicomdir.specs.Names.{choice_by}
use Rattle.dicomdir.specs.Prints.{PrintsIndex, PrintsMerge}
use Rattle.dicomdir.specs.Publishes.{PrintsPublish}
use Rattle.dicomdir.specs.Words.{SaysRequested}

-- ---- a command that is done

pub index_said : {E W : Type 0} (writer : WriteOf W) (r : Result ℕ E) (style : Style)
    (is_dry is_strict keeps_going : Bool) (choice : Choice) (bytes : ℕ) (sources : List (List ℕ)) (files : Option Held)
    (old new : W)
    → IfOk r (λ status. status ≢ 1
    → PrintsIndex writer style is_dry is_strict keeps_going choice bytes sources status files old new)
    → IfOk r (λ status. IsDone status
    → PrintsIndex writer style is_dry is_strict keeps_going choice bytes sources status files old new)
index_said writer (Ok status) style is_dry is_strict keeps_going choice bytes sources files old new said =
    λ done. said (unlike_one status done)
index_said writer (Err refusal) style is_dry is_strict keeps_going choice bytes sources files old new said = tt

pub merge_said : {E W : Type 0} (writer : WriteOf W) (r : Result ℕ E) (style : Style) (is_dry is_strict : Bool)
    (choice : Choice) (bytes : ℕ) (given folders : List (List ℕ)) (files : Option Held) (old new : W)
    → IfOk r (λ status. status ≤ 1)
    → IfOk r (λ status. status ≡ 0 → PrintsMerge writer style is_dry is_strict choice bytes given folders files old new)
    → IfOk r (λ status. IsDone status
    → PrintsMerge writer style is_dry is_strict choice bytes given folders files old new)
merge_said writer (Ok status) style is_dry is_strict choice bytes given folders files old new few said =
    λ done. said (zero_of_two status few done)
merge_said writer (Err refusal) style is_dry is_strict choice bytes given folders files old new few said = tt

pub publish_said : {E W : Type 0} (writer : WriteOf W) (r : Result ℕ E) (style : Style) (is_dry is_strict : Bool)
    (choice : Choice) (bytes : ℕ) (piles : List (List ℕ)) (files : Option Held) (old new : W)
    → IfOk r (λ status. status ≢ 1
    → PrintsPublish writer style is_dry is_strict choice bytes piles status files old new)
    → IfOk r (λ status. IsDone status
    → PrintsPublish writer style is_dry is_strict choice bytes piles status files old new)
publish_said writer (Ok status) style is_dry is_strict choice bytes piles files old new said =
    λ done. said (unlike_one status done)
publish_said writer (Err refusal) style is_dry is_strict choice bytes piles files old new said = tt

-- ---- the same flags and label

module _ {W : Type 0} (writer : WriteOf W) (bytes : ℕ) (files : Option Held) (old new : W) where
  index_as : (sources : List Text) (status : ℕ)
      (json dry strict keeps other_json other_dry other_strict other_keeps : Bool) (choice other : Choice)
      → json ≡ other_json → dry ≡ other_dry → strict ≡ other_strict → keeps ≡ other_keeps → choice ≡ other
      → PrintsIndex writer (style_by json) dry strict keeps choice bytes sources status files old new
      → PrintsIndex writer (style_by other_json) other_dry other_strict other_keeps other bytes sources status files old
      new
  index_as sources status json dry strict keeps other_json other_dry other_strict other_keeps choice other same_json
      same_dry same_strict same_keeps same said =
      subst (λ (is : Bool). PrintsIndex writer (style_by is) other_dry other_strict other_keeps other bytes sources
      status files old new) same_json
      (subst (λ (is : Bool). PrintsIndex writer (style_by json) is other_strict other_keeps other bytes sources status
      files old new) same_dry
      (subst (λ (is : Bool). PrintsIndex writer (style_by json) dry is other_keeps other bytes sources status files old
      new) same_strict
      (subst (λ (is : Bool). PrintsIndex writer (style_by json) dry strict is other bytes sources status files old new)
      same_keeps
      (subst (λ (label : Choice). PrintsIndex writer (style_by json) dry strict keeps label bytes sources status files
      old new) same said))))

  merge_as : (given folders : List Text) (json dry strict other_json other_dry other_strict : Bool)
      (choice other : Choice) → json ≡ other_json → dry ≡ other_dry → strict ≡ other_strict → choice ≡ other
      → PrintsMerge writer (style_by json) dry strict choice bytes given folders files old new
      → PrintsMerge writer (style_by other_json) other_dry other_strict other bytes given folders files old new
  merge_as given folders json dry strict other_json other_dry other_strict choice other same_json same_dry same_strict
      same said =
      subst (λ (is : Bool). PrintsMerge writer (style_by is) other_dry other_strict other bytes given folders files old
      new) same_json
      (subst (λ (is : Bool). PrintsMerge writer (style_by json) is other_strict other bytes given folders files old new)
      same_dry
      (subst (λ (is : Bool). PrintsMerge writer (style_by json) dry is other bytes given folders files old new)
      same_strict
      (subst (λ (label : Choice). PrintsMerge writer (style_by json) dry strict label bytes given folders files old new)
      same said)))

  publish_as : (piles : List Text) (status : ℕ) (json dry strict other_json other_dry other_strict : Bool)
      (choice other : Choice) → json ≡ other_json → dry ≡ other_dry → strict ≡ other_strict → choice ≡ other
      → PrintsPublish writer (style_by json) dry strict choice bytes piles status files old new
      → PrintsPublish writer (style_by other_json) other_dry other_strict other bytes piles status files old new
  publish_as piles status json dry strict other_json other_dry other_strict choice other same_json same_dry
      same_strict same
      said =
      subst (λ (is : Bool). PrintsPublish writer (style_by is) other_dry other_strict other bytes piles status files
      old new)
      same_json
      (subst (λ (is : Bool). PrintsPublish writer (style_by json) is other_strict other bytes piles status files old
      new)
      same_dry
      (subst (λ (is : Bool). PrintsPublish writer (style_by json) dry is other bytes piles status files old new)
      same_strict
      (subst (λ (label : Choice). PrintsPublish writer (style_by json) dry strict label bytes piles status files old
      new)
      same
      said)))

-- ---- by the words of its line

-- what a request prints under the label of its line, without the instances that it withdraws
abbrev pub SaysAsked : {W : Type 0} → WriteOf W → Request → ℕ → Option Held → W → W → Type 0
SaysAsked writer r status files old new =
    SaysRequested writer r (choice_by (id_of r) (uid_of r)) (words_of (instances_of r)) status files old new

says_of_sources : {W : Type 0} (writer : WriteOf W) (x : IndexRequest) (command : Text) (given : List Row) (status : ℕ)
    (files : Option Held) (old new : W) → Requests (Index x) command given
    → SaysAsked writer (Index x) status files old new → SaysOfSources writer given status files old new
says_of_sources writer x command given status files old new h said =
    let new_set = h.values.new_set in
    let are : AreSources x.keep_going (option_map string_bytes x.sources.files0_from)
    (words_of x.sources.words.items) files said.sources = said.are in
    record {
      bytes = x.new_set.max_bytes;
      limit = new_set.max_bytes;
      sources = said.sources;
      are = rw (h.values.keep_going, h.values.sources.files0_from, h.values.sources.words) at are;
      says = index_as writer x.new_set.max_bytes files old new said.sources status x.new_set.json x.new_set.dry_run
          x.new_set.strict x.keep_going (is_given json_name given) (is_given dry_run_name given)
          (is_given strict_name given) (is_given keep_going_name given) _ (choice_of given) new_set.json
          new_set.dry_run new_set.strict h.values.keep_going (ap₂ choice_by new_set.id new_set.uid) said.says;
    }

says_of_sets : {W : Type 0} (writer : WriteOf W) (x : MergeRequest) (command : Text) (given : List Row) (status : ℕ)
    (files : Option Held) (old new : W) → Requests (Merge x) command given
    → SaysAsked writer (Merge x) status files old new → SaysOfSets writer given files old new
says_of_sets writer x command given status files old new h said =
    let new_set = h.values.new_set in
    let are : AreSources false (option_map string_bytes x.sets.files0_from) (words_of x.sets.words.items) files
    said.sources = said.are in
    record {
      bytes = x.new_set.max_bytes;
      limit = new_set.max_bytes;
      folders = said.sources;
      are = rw (h.values.sets.files0_from, h.values.sets.words) at are;
      says = merge_as writer x.new_set.max_bytes files old new [] said.sources x.new_set.json x.new_set.dry_run
          x.new_set.strict (is_given json_name given) (is_given dry_run_name given) (is_given strict_name given) _
          (choice_of given) new_set.json new_set.dry_run new_set.strict (ap₂ choice_by new_set.id new_set.uid)
          said.says;
    }

says_of_set : {W : Type 0} (writer : WriteOf W) (x : WithdrawRequest) (command : Text) (given : List Row) (status : ℕ)
    (files : Option Held) (old new : W) → Requests (Withdraw x) command given
    → SaysAsked writer (Withdraw x) status files old new → SaysOfSet writer given files old new
says_of_set writer x command given status files old new h said =
    let new_set = h.values.new_set in
    record {
      bytes = x.new_set.max_bytes;
      limit = new_set.max_bytes;
      says = merge_as writer x.new_set.max_bytes files old new (given_for instance_name given)
          (given_for set_name given) x.new_set.json x.new_set.dry_run x.new_set.strict (is_given json_name given)
          (is_given dry_run_name given) (is_given strict_name given) _ (choice_of given) new_set.json new_set.dry_run
          new_set.strict (ap₂ choice_by new_set.id new_set.uid)
          (subst (λ (sets : List Text). PrintsMerge writer (style_by x.new_set.json) x.new_set.dry_run x.new_set.strict
          (choice_by (option_map string_bytes x.new_set.id) (option_map string_bytes x.new_set.uid))
          x.new_set.max_bytes (given_for instance_name given) sets files old new) (sym h.values.set)
          (subst (λ (uids : List Text). PrintsMerge writer (style_by x.new_set.json) x.new_set.dry_run
          x.new_set.strict (choice_by (option_map string_bytes x.new_set.id) (option_map string_bytes x.new_set.uid))
          x.new_set.max_bytes uids (string_bytes x.set ∷ []) files old new) h.values.instances said.says));
    }

pub index_says : {W : Type 0} (writer : WriteOf W) (r : Request) (found : Option (Text × List Row)) (status : ℕ)
    (files : Option Held) (old new : W) → IsRequested r found → IsIndex found
    → SaysAsked writer r status files old new → IndexSays writer found status files old new
index_says writer r None status files old new h names said = absurd h
index_says writer (Index x) (Some (command, given)) status files old new h names said =
    says_of_sources writer x command given status files old new h said
index_says writer (Merge x) (Some (command, given)) status files old new h names said =
    unlike (verb_name verbs.Merge) (verb_name verbs.Index) (h.verb ∙ names) (λ (e : 109 ≡ 105). omega (arith, e))
index_says writer (Withdraw x) (Some (command, given)) status files old new h names said =
    unlike (verb_name verbs.Withdraw) (verb_name verbs.Index) (h.verb ∙ names) (λ (e : 119 ≡ 105). omega (arith, e))
index_says writer (Stage x) (Some (command, given)) status files old new h names said =
    unlike (verb_name verbs.Stage) (verb_name verbs.Index) (h.verb ∙ names) (λ (e : 115 ≡ 105). omega (arith, e))
index_says writer (Publish x) (Some (command, given)) status files old new h names said =
    unlike (verb_name verbs.Publish) (verb_name verbs.Index) (h.verb ∙ names) (λ (e : 112 ≡ 105). omega (arith, e))
index_says writer (Check x) (Some (command, given)) status files old new h names said =
    unlike (verb_name verbs.Check) (verb_name verbs.Index) (h.verb ∙ names) (λ (e : 99 ≡ 105). omega (arith, e))
index_says writer (ListSet x) (Some (command, given)) status files old new h names said =
    unlike (verb_name verbs.List) (verb_name verbs.Index) (h.verb ∙ names) (λ (e : 108 ≡ 105). omega (arith, e))

pub merge_says : {W : Type 0} (writer : WriteOf W) (r : Request) (found : Option (Text × List Row)) (status : ℕ)
    (files : Option Held) (old new : W) → IsRequested r found → IsMerge found
    → SaysAsked writer r status files old new → MergeSays writer found files old new
merge_says writer r None status files old new h names said = absurd h
merge_says writer (Merge x) (Some (command, given)) status files old new h names said =
    says_of_sets writer x command given status files old new h said
merge_says writer (Index x) (Some (command, given)) status files old new h names said =
    unlike (verb_name verbs.Index) (verb_name verbs.Merge) (h.verb ∙ names) (λ (e : 105 ≡ 109). omega (arith, e))
merge_says writer (Withdraw x) (Some (command, given)) status files old new h names said =
    unlike (verb_name verbs.Withdraw) (verb_name verbs.Merge) (h.verb ∙ names) (λ (e : 119 ≡ 109). omega (arith, e))
merge_says writer (Stage x) (Some (command, given)) status files old new h names said =
    unlike (verb_name verbs.Stage) (verb_name verbs.Merge) (h.verb ∙ names) (λ (e : 115 ≡ 109). omega (arith, e))
merge_says writer (Publish x) (Some (command, given)) status files old new h names said =
    unlike (verb_name verbs.Publish) (verb_name verbs.Merge) (h.verb ∙ names) (λ (e : 112 ≡ 109). omega (arith, e))
merge_says writer (Check x) (Some (command, given)) status files old new h names said =
    unlike (verb_name verbs.Check) (verb_name verbs.Merge) (h.verb ∙ names) (λ (e : 99 ≡ 109). omega (arith, e))
merge_says writer (ListSet x) (Some (command, given)) status files old new h names said =
    unlike (verb_name verbs.List) (verb_name verbs.Merge) (h.verb ∙ names) (λ (e : 108 ≡ 109). omega (arith, e))

pub withdraw_says : {W : Type 0} (writer : WriteOf W) (r : Request) (found : Option (Text × List Row)) (status : ℕ)
    (files : Option Held) (old new : W) → IsRequested r found → IsWithdraw found
    → SaysAsked writer r status files old new → WithdrawSays writer found files old new
withdraw_says writer r None status files old new h names said = absurd h
withdraw_says writer (Withdraw x) (Some (command, given)) status files old new h names said =
    says_of_set writer x command given status files old new h said
withdraw_says writer (Index x) (Some (command, given)) status files old new h names said =
    unlike (verb_name verbs.Index) (verb_name verbs.Withdraw) (h.verb ∙ names) (λ (e : 105 ≡ 119). omega (arith, e))
withdraw_says writer (Merge x) (Some (command, given)) status files old new h names said =
    unlike (verb_name verbs.Merge) (verb_name verbs.Withdraw) (h.verb ∙ names) (λ (e : 109 ≡ 119). omega (arith, e))
withdraw_says writer (Stage x) (Some (command, given)) status files old new h names said =
    unlike (verb_name verbs.Stage) (verb_name verbs.Withdraw) (h.verb ∙ names) (λ (e : 115 ≡ 119). omega (arith, e))
withdraw_says writer (Publish x) (Some (command, given)) status files old new h names said =
    unlike (verb_name verbs.Publish) (verb_name verbs.Withdraw) (h.verb ∙ names) (λ (e : 112 ≡ 119). omega (arith, e))
withdraw_says writer (Check x) (Some (command, given)) status files old new h names said =
    unlike (verb_name verbs.Check) (verb_name verbs.Withdraw) (h.verb ∙ names) (λ (e : 99 ≡ 119). omega (arith, e))
withdraw_says writer (ListSet x) (Some (command, given)) status files old new h names said =
    unlike (verb_name verbs.List) (verb_name verbs.Withdraw) (h.verb ∙ names) (λ (e : 108 ≡ 119). omega (arith, e))

says_of_piles : {W : Type 0} (writer : WriteOf W) (x : PublishRequest) (command : Text) (given : List Row) (status : ℕ)
    (files : Option Held) (old new : W) → Requests (Publish x) command given
    → SaysAsked writer (Publish x) status files old new → SaysOfPiles writer given status files old new
says_of_piles writer x command given status files old new h said =
    let new_set = h.values.new_set in
    record {
      bytes = x.new_set.max_bytes;
      limit = new_set.max_bytes;
      piles = said.sources;
      are = sources_as false _ _ _ _ files said.sources (list_is x.from x.piles.files0_from given h.values.from
          h.values.piles.files0_from) h.values.piles.words said.are;
      says = publish_as writer x.new_set.max_bytes files old new said.sources status x.new_set.json x.new_set.dry_run
          x.new_set.strict (is_given json_name given) (is_given dry_run_name given) (is_given strict_name given) _
          (choice_of given) new_set.json new_set.dry_run new_set.strict (ap₂ choice_by new_set.id new_set.uid)
          said.says;
    }

pub publish_says : {W : Type 0} (writer : WriteOf W) (r : Request) (found : Option (Text × List Row)) (status : ℕ)
    (files : Option Held) (old new : W) → IsRequested r found → IsPublish found
    → SaysAsked writer r status files old new → PublishSays writer found status files old new
publish_says writer r None status files old new h names said = absurd h
publish_says writer (Publish x) (Some (command, given)) status files old new h names said =
    says_of_piles writer x command given status files old new h said
publish_says writer (Index x) (Some (command, given)) status files old new h names said =
    unlike (verb_name verbs.Index) (verb_name verbs.Publish) (h.verb ∙ names) (λ (e : 105 ≡ 112). omega (arith, e))
publish_says writer (Merge x) (Some (command, given)) status files old new h names said =
    unlike (verb_name verbs.Merge) (verb_name verbs.Publish) (h.verb ∙ names) (λ (e : 109 ≡ 112). omega (arith, e))
publish_says writer (Withdraw x) (Some (command, given)) status files old new h names said =
    unlike (verb_name verbs.Withdraw) (verb_name verbs.Publish) (h.verb ∙ names) (λ (e : 119 ≡ 112). omega (arith, e))
publish_says writer (Stage x) (Some (command, given)) status files old new h names said =
    unlike (verb_name verbs.Stage) (verb_name verbs.Publish) (h.verb ∙ names) (λ (e : 115 ≡ 112). omega (arith, e))
publish_says writer (Check x) (Some (command, given)) status files old new h names said =
    unlike (verb_name verbs.Check) (verb_name verbs.Publish) (h.verb ∙ names) (λ (e : 99 ≡ 112). omega (arith, e))
publish_says writer (ListSet x) (Some (command, given)) status files old new h names said =
    unlike (verb_name verbs.List) (verb_name verbs.Publish) (h.verb ∙ names) (λ (e : 108 ≡ 112). omega (arith, e))
