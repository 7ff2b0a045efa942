use Rattle.std.proofs.Common.{refl, [], ◌≡◌, ◌≤◌, ◌<◌, ℕ, List, Option, IsSomeAnd, length, replicate, sym, ap, subst}
use Rattle.std.proofs.Common.{◌∙◌, arith, true, false}
use Rattle.std.proofs.lemmas.Result.{IfOk-weaker, on_err_weaker}
use Rattle.std.proofs.Math.ListN.{length-replicate}
use Rattle.dd_encoding.specs.Elements.{Elements}
use Rattle.dd_grammar.specs.Lists.{same_tag}
use Rattle.dd_set.specs.Starts.{places_in}
use Rattle.dd_set.specs.Views.{set_view, elements_view}
use Rattle.dd_set.proofs.Places.{seek_more, seek_found, seek_none}
use Rattle.dd_set.proofs.Seen.{set_view-is}
use Rattle.dd_set.proofs.set.DataSet.item_starts.Goals as goal

pub returns-then-eq-clause-spelled : goal.returns-then-eq-clause-spelled
returns-then-eq-clause-spelled c = λ spelled.
    let es = c.deref-element-items.result.now in
    let e = c.element-item.result in
    let before = replicate c.loop-element.at 0 in
    let before_is : length before ≡ c.loop-element.at = length-replicate c.loop-element.at 0 in
    let same : same_tag e.tag c.args.tag ≡ true = sym c.eq.ensures ∙ c.if-eq.true in
    let all : elements_view es ≡ set_view c.args.self.now = ap elements_view c.deref-element-items.ensures.value
    ∙ sym (set_view-is c.args.self.now) in
    IfOk-weaker c.starts_of.result _ _ (λ starts found. found
    ∙ seek_found _ _ _ _ _ _ es c.loop-element.element-index e before [] c.loop-element-test.true c.element-item.is
    c.loop-element.invariant same before_is refl
    ∙ ap (λ (set : Elements). places_in c.args.tag [] set) all) (c.starts_of.ensures.places before before_is)

pub returns-then-eq-clause-memory : goal.returns-then-eq-clause-memory
returns-then-eq-clause-memory c =
    let es = c.deref-element-items.result.now in
    let e = c.element-item.result in
    let before = replicate c.loop-element.at 0 in
    let before_is : length before ≡ c.loop-element.at = length-replicate c.loop-element.at 0 in
    let same : same_tag e.tag c.args.tag ≡ true = sym c.eq.ensures ∙ c.if-eq.true in
    let all : elements_view es ≡ set_view c.args.self.now = ap elements_view c.deref-element-items.ensures.value
    ∙ sym (set_view-is c.args.self.now) in
    let some = λ (places : Option (List ℕ)). IsSomeAnd places (λ starts. 0 < length starts) in
    on_err_weaker c.starts_of.result (subst some
    (seek_found _ _ _ _ _ _ es c.loop-element.element-index e before [] c.loop-element-test.true c.element-item.is
    c.loop-element.invariant same before_is refl
    ∙ ap (λ (set : Elements). places_in c.args.tag [] set) all)) (c.starts_of.ensures.memory before)

pub loop-element-preserved : goal.loop-element-preserved
loop-element-preserved c =
    let es = c.deref-element-items.result.now in
    let e = c.element-item.result in
    let other : same_tag e.tag c.args.tag ≡ false = sym c.eq.ensures ∙ c.if-eq.false in
    seek_more _ _ _ _ _ _ es c.loop-element.element-index e c.in-Some.size c.loop-element-test.true c.element-item.is
    c.loop-element.invariant other c.in-Some.ensures.1

pub returns-clause-spelled : goal.returns-clause-spelled
returns-clause-spelled c = λ spelled.
    let es = c.deref-element-items.result.now in
    let past : length es ≤ c.loop-element.element-index = omega arith in
    let all : elements_view es ≡ set_view c.args.self.now = ap elements_view c.deref-element-items.ensures.value
    ∙ sym (set_view-is c.args.self.now) in
    seek_none _ _ _ _ _ _ es c.loop-element.element-index [] past c.loop-element.invariant refl
    ∙ ap (λ (set : Elements). places_in c.args.tag [] set) all
