use Rattle.std.proofs.Common.{◌≡◌, ◌∷◌, None, true, List, ap, arith, sym, ◌∙◌}
use Rattle.std.specs.Vec.Iter.{into_iter_items}
use Rattle.std.proofs.lemmas.Grind.{common_steps}
use Rattle.dd_set.specs.declared.set.Element.{Element}
use Rattle.dd_grammar.specs.Lists.{same_tag}
use Rattle.dd_set.specs.Views.{set_view, elements_view, value_view}
use Rattle.dd_walk.specs.Saying.{item_sets_of}
use Rattle.dd_walk.proofs.Sequences.{items_in, items_in-is, first_holds}
use Rattle.dd_walk.proofs.pending.items_of.Goals as goal

pub returns : goal.returns
returns c =
    let none : None ≡ items_in c.args.tag (set_view c.args.set) = grind (arith, common_steps) in
    none ∙ items_in-is c.args.tag (set_view c.args.set)

pub returns-then-eq : goal.returns-then-eq
returns-then-eq c =
    let e = c.in-Some.element in
    let rest = into_iter_items c.next.new.self in
    let step : into_iter_items c.loop-element.element-iterator ≡ e ∷ rest = grind (arith, common_steps) in
    let same : same_tag e.tag c.args.tag ≡ true = grind (arith, common_steps) in
    let held : item_sets_of (value_view e.value) ≡ items_in c.args.tag (set_view c.args.set) =
    sym (first_holds c.args.tag e rest same)
    ∙ sym (ap (λ (es : List Element). items_in c.args.tag (elements_view es)) step) ∙ c.loop-element.invariant in
    c.items_held.ensures ∙ held ∙ items_in-is c.args.tag (set_view c.args.set)
