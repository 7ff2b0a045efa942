use Rattle.std.proofs.Common.{◌≡◌, ◌∙◌, ◌∷◌, ◌++◌, List, [], ℕ, ap, get_or, map, sym}
use Rattle.std.specs.Prelude.{Option, Some}
use Rattle.std.proofs.lemmas.List.{get_or_default}
use Rattle.dd_engine.specs.declared.mentions.Mention.{Mention}
use Rattle.dd_engine.specs.Mentions.{first_number, mention_view}
use Rattle.dd_engine.specs.MergeSteps.{Withdrawal, known_in}
use Rattle.dd_engine.proofs.FirstMentions.{first_stays}
use Rattle.dd_engine.proofs.NewUids.{is_known, is_new, is_no_place, is_place, new_more, old_more}
use Rattle.dd_engine.proofs.set_notes.unlisted_uids.Goals as goal
use Rattle.dd_engine.proofs.set_notes.unlisted_uids.Goals.{then-eq+in_ok-push, else-eq}

pub loop-at-preserved : goal.loop-at-preserved
loop-at-preserved c =
    let given = c.args.given.now in
    let known = known_in c.args.gathered.now given in
    let i = c.loop-at.at in
    let uid = c.index-given-at.result in
    let number = c.first_number.result in
    let here : get_or given i [] ≡ uid =
    get_or_default given i [] uid c.loop-at-test.true ∙ sym c.index-given-at.is in
    let first =
    c.first_number.ensures
    ∙ ap (λ (l : List Mention). first_number (map (λ mention. mention_view mention) l) uid) c.deref.ensures.value
    ∙ first_stays c.in_ok-listed_then_given.field-0.items c.in_ok-mentions.mentions.items
    c.in_ok-mentions.ensures.stable uid
    ∙ ap (λ (l : List Withdrawal). first_number l uid) c.in_ok-listed_then_given.ensures in
    elim c.if-eq.branch [
      | then-eq+in_ok-push w ↦
          ap (λ uids. uids.items) w.uids-is ∙ w.in_ok-push.ensures.items
          ∙ ap (λ (l : List (List ℕ)). l ++ uid ∷ []) c.loop-at.invariant
          ∙ new_more known given i uid c.loop-at-test.true here
          (is_new known given i uid number first (is_place number i (sym c.eq.ensures ∙ w.if-eq.true)))
      | else-eq w ↦
          ap (λ uids. uids.items) w.uids-is ∙ c.loop-at.invariant
          ∙ old_more known given i uid c.loop-at-test.true here
          (is_known known given i uid number c.loop-at-test.true here first
          (is_no_place number i (sym c.eq.ensures ∙ w.if-eq.false)))
    ]
