-- Each version is counted whose UID has a mention, which has a number.
use Rattle.std.proofs.Common.{◌≡◌, ◌++◌, ◌∙◌, ◌≤◌, List, ℕ, ap, arith, map, rules, sym, take}
use Rattle.std.specs.List.{zip}
use Rattle.std.specs.Prelude.{Option, Some, is_some}
use Rattle.std.proofs.lemmas.List.{nil_from_length}
use Rattle.dd_version.specs.declared.parts.Parts.{Parts}
use Rattle.dd_engine.specs.declared.mentions.Mention.{Mention}
use Rattle.dd_engine.specs.Mentions.{first_number, mention_view}
use Rattle.dd_engine.specs.MergeSteps.{Withdrawal}
use Rattle.dd_engine.specs.SetNotes.{is_among}
use Rattle.dd_engine.proofs.CountedImages.{among_number, counted_more, few_among, none_among, not_counted}
use Rattle.dd_engine.proofs.FirstMentions.{first_stays}
use Rattle.dd_engine.proofs.set_notes.count_of.Goals as goal
use Rattle.dd_engine.proofs.set_notes.count_of.Goals.{then-is_some, else-is_some}

pub returns-then-is_empty-clause-all : goal.returns-then-is_empty-clause-all
returns-then-is_empty-clause-all c =
    rw (nil_from_length c.args.uids.now (search rules)) (sym (none_among c.args.versions.now))

pub overflow_add-count : goal.overflow_add-count
overflow_add-count c =
    let few = few_among c.args.uids.now c.args.versions.now c.loop-version.version-index
    (omega (arith, c.loop-version-test.true)) in
    let most : c.loop-version.count ≤ c.loop-version.version-index = rw c.loop-version.invariant few in
    search (rules, most, c.loop-version-test.true)

pub loop-version-preserved : goal.loop-version-preserved
loop-version-preserved c =
    let uids = c.args.uids.now in
    let versions = c.args.versions.now in
    let i = c.loop-version.version-index in
    let version = c.version-item.result in
    let uid = c.parts.result.now.instance in
    let numbers = c.in_ok-add_numbers.ensures.all
    ∙ ap (λ (l : List (Option ℕ)). l ++ map (λ _. Some 0) uids) c.new-numbers.ensures.items in
    let mentions = c.in_ok-mentions_of.ensures
    ∙ ap (λ (l : List (Option ℕ)). zip l uids) (c.deref.ensures.value ∙ numbers) in
    let first = c.first_number.ensures
    ∙ ap (λ (l : List Mention). first_number (map (λ mention. mention_view mention) l) uid)
    c.deref-in-loop-version.ensures.value
    ∙ first_stays c.in_ok-mentions_of.field-0.items c.in_ok-mentions.mentions.items c.in_ok-mentions.ensures.stable uid
    ∙ ap (λ (l : List Withdrawal). first_number l uid) mentions in
    let among : is_among uids version.instance ≡ is_some c.first_number.result =
    ap (λ (parts : Parts). is_among uids parts.instance) (sym c.parts.ensures.value)
    ∙ sym (among_number uids uid) ∙ ap is_some (sym first) in
    elim c.if-is_some.branch [
      | then-is_some w ↦
          w.count-is
          ∙ counted_more uids versions i version c.loop-version.count _ c.loop-version-test.true c.version-item.is
          (among ∙ sym c.is_some.ensures ∙ w.if-is_some.true) c.loop-version.invariant
      | else-is_some w ↦
          w.count-is ∙ not_counted c.loop-version.count
          ∙ counted_more uids versions i version c.loop-version.count _ c.loop-version-test.true c.version-item.is
          (among ∙ sym c.is_some.ensures ∙ w.if-is_some.false) c.loop-version.invariant
    ]
