-- It is made of what the engine merged, where the texts are UIDs.
use Rattle.std.proofs.Common.{◌∙◌, List, ℕ, [], ◌∷◌, Ok, map, subst}
use Rattle.std.specs.Borrow.{Bor}
use Rattle.dd_engine.specs.Merging.{Merges}
use Rattle.dd_making.specs.Merges.{HasNoUid}
use Rattle.dd_making.proofs.Making.{made, not_made_or}
use Rattle.dd_making.proofs.withdrawing.withdraw_texts.Goals as goal

abbrev values : List (Bor (List ℕ)) → List (List ℕ)
values texts = map (λ (text : Bor (List ℕ)). text.now) texts

pub returns-in-Ok-clause-made : goal.returns-in-Ok-clause-made
returns-in-Ok-clause-made c =
    let sets = c.args.bytes.now ∷ [] in
    let merges = subst (λ (uids : List (List ℕ)). Merges c.args.choice.now c.of_bytes.result uids sets (Ok c.in-Ok.merged))
    (c.deref.ensures.value ∙ c.in_ok-uids.ensures.uids) c.in-Ok.ensures.merges in
    made c.args.choice.now (values c.args.texts.now) sets c.of_bytes.result c.in-Ok.merged c.of_bytes.ensures merges
    c.of.result c.of.ensures.made

pub returns-in-Ok-clause-refused : goal.returns-in-Ok-clause-refused
returns-in-Ok-clause-refused c =
    let sets = c.args.bytes.now ∷ [] in
    let merges = subst (λ (uids : List (List ℕ)). Merges c.args.choice.now c.of_bytes.result uids sets (Ok c.in-Ok.merged))
    (c.deref.ensures.value ∙ c.in_ok-uids.ensures.uids) c.in-Ok.ensures.merges in
    not_made_or c.args.choice.now (values c.args.texts.now) sets c.of_bytes.result c.in-Ok.merged c.of_bytes.ensures
    merges (HasNoUid (values c.args.texts.now)) c.of.result c.of.ensures.memory
