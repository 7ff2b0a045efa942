use Rattle.std.proofs.Common.{◌≡◌, ℕ, Bool, List, not, [], ◌∷◌, map, sym, ◌∙◌, ap, bytes_eq}
use Rattle.std.proofs.lemmas.List.{map-append}
use Rattle.dd_version.specs.declared.parts.Parts.{Parts}
use Rattle.dd_catalogue.specs.Carriers.{version_like}
use Rattle.dd_catalogue.specs.Owners.{is_of_another_owner}
use Rattle.dd_catalogue.proofs.TwoOwners.{found_this, found_other}
use Rattle.dd_catalogue.proofs.owners.of_another_owner.Goals.{then-ne+in_ok-push, else-ne}
use Rattle.dd_catalogue.proofs.owners.of_another_owner.Goals as goal

pub loop-one-preserved : goal.loop-one-preserved
loop-one-preserved g c =
    let uid : Parts → List ℕ = λ v. g.T.Keyed.key_of (g.T.Tuple.tuple_of v) in
    let owner : Parts → List ℕ = λ v. g.O.Keyed.key_of (g.O.Tuple.tuple_of v) in
    let test : Parts → Bool = is_of_another_owner uid owner c.args.table.now in
    let top : c.owner_of.result.now ≡ owner (version_like uid c.args.table.now c.one-item.result) =
    c.owner_of.ensures ∙ ap owner c.like.ensures in
    let is : test c.one-item.result ≡ c.ne.result =
    sym (c.ne.ensures ∙ (λ j. not (bytes_eq (top j) (c.owner_of-in-loop-one.ensures j)))) in
    elim c.if-ne.branch [
      | then-ne+in_ok-push w ↦ rw w.others-is (found_this test c.args.carriers.now c.loop-one.one-index c.one-item.result
          (map (λ one. one.now) c.loop-one.others.items) (map (λ one. one.now) w.push.new.self.items)
          c.loop-one-test.true c.one-item.is (is ∙ w.if-ne.true) c.loop-one.invariant
          (ap (λ x. map (λ one. one.now) x) w.in_ok-push.ensures.items
          ∙ map-append (λ one. one.now) c.loop-one.others.items (_ ∷ [])))
      | else-ne w ↦ rw w.others-is (found_other test c.args.carriers.now c.loop-one.one-index c.one-item.result
          (map (λ one. one.now) c.loop-one.others.items)
          c.loop-one-test.true c.one-item.is (is ∙ w.if-ne.false) c.loop-one.invariant)
    ]
