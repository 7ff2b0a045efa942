use Rattle.std.proofs.Common.{◌∙◌, List, ℕ, ap, ap₂, map, rules, subst, sym}
use Rattle.std.specs.List.{zip}
use Rattle.std.specs.Prelude.{Option}
use Rattle.std.proofs.lemmas.Result.{IfOk-weaker}
use Rattle.std.proofs.lemmas.List.{nil_from_length}
use Rattle.dd_version.specs.declared.parts.Parts.{Parts}
use Rattle.dd_engine.specs.declared.mentions.Mention.{Mention}
use Rattle.dd_engine.specs.declared.merge.Pick.{Pick}
use Rattle.dd_engine.specs.Mentions.{first_number, mention_view}
use Rattle.dd_engine.specs.MergeSteps.{Withdrawal}
use Rattle.dd_engine.specs.SetNotes.{AreWithdrawn}
use Rattle.dd_engine.proofs.FirstMentions.{first_stays}
use Rattle.dd_engine.proofs.WithdrawnImages.{are_withdrawn, none_withdrawn}
use Rattle.dd_engine.proofs.set_notes.withdrawn_images.Goals as goal

pub returns-then-is_empty-clause-all : goal.returns-then-is_empty-clause-all
returns-then-is_empty-clause-all c = λ given listings held.
    subst (λ l. AreWithdrawn given listings l) (sym c.new.ensures.items)
    (none_withdrawn given listings c.args.gathered.now held
    (nil_from_length c.args.gathered.now.withdrawn.items (search rules)))

pub returns-clause-all : goal.returns-clause-all
returns-clause-all c = λ given listings held.
    IfOk-weaker c.numbered_images.result _ _
    (λ images is. are_withdrawn given listings c.args.gathered.now
    (first_number (map (λ mention. mention_view mention) c.deref-3.result.now))
    (zip c.deref-5.result.now c.deref-4.result.now) images.items held
    (λ uid. ap (λ (l : List Mention). first_number (map (λ mention. mention_view mention) l) uid)
    c.deref-3.ensures.value
    ∙ first_stays c.in_ok-mentions_of.field-0.items c.in_ok-mentions.mentions.items c.in_ok-mentions.ensures.stable uid
    ∙ ap (λ (l : List Withdrawal). first_number l uid) (c.in_ok-mentions_of.ensures
    ∙ ap₂ (λ (a : List (Option ℕ)) (b : List (List ℕ)). zip a b) c.deref-2.ensures.value c.deref.ensures.value))
    (ap₂ (λ (a : List Pick) (b : List Parts). zip a b) c.deref-5.ensures.value c.deref-4.ensures.value) is)
    c.numbered_images.ensures
