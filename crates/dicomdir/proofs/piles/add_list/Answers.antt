-- One source more of the list is added, and at the end all of them are.
use Rattle.std.proofs.Common.{◌≡◌, ◌∙◌, ◌∷◌, ◌++◌, [], ap, append-nil, append_assoc, arith, length, map, refl, rules}
use Rattle.std.proofs.Common.{subst, sym}
use Rattle.std.proofs.lemmas.List.{length-map, length_push, map_push}
use Rattle.std.specs.Vec.Iter.{into_iter_items}
use Rattle.dd_staged.specs.Sources.{source_view}
use Rattle.dd_inputs.proofs.HavingPaths.{none_of}
use Rattle.dicomdir.proofs.Piling.{names_count, piled_start}
use Rattle.dicomdir.specs.Publishes.{IsPiled}
use Rattle.dicomdir.proofs.piles.add_list.Goals as goal

pub loop-staged-init : goal.loop-staged-init
loop-staged-init c =
    let h = c.into_iter-staged-iterator.ensures.into_iter_gives in
    let left = h.1 ∙ c.args.list.ok.0 ∙ sym (ap length h.0) in
    record {
      all = refl;
      left = left;
      few = omega (arith, h.2, left);
      before = search rules;
      number = refl;
      piled = λ lists count is. piled_start lists _ is;
    }

pub loop-staged-preserved : goal.loop-staged-preserved
loop-staged-preserved c =
    let at = c.loop-staged in
    let before = at.invariant in
    let staged = c.in-Some.staged in
    let steps : into_iter_items at.staged-iterator ≡ staged ∷ into_iter_items c.next.new.self =
    c.in-Some.ensures.steps.0 in
    record {
      all = append_assoc at.yielded (staged ∷ []) _ ∙ rw (← steps) before.all;
      left = let gone = c.in-Some.ensures.steps.1 in
          let short = ap length steps in
          omega (arith, before.left, gone, short);
      few = before.few;
      before = before.before;
      number = omega (arith, before.number, length_push at.yielded staged);
      piled = λ lists count is. rw (map_push source_view at.yielded staged)
          (c.in_ok-add_source.ensures refl lists (map source_view at.yielded) count
          (omega (arith, before.number, length-map at.yielded source_view))
          (sym (names_count lists _ is) ∙ sym before.before) (before.piled lists count is));
    }

pub returns : goal.returns
returns c = λ ok lists count is.
    let at = c.loop-staged in
    let none = c.in-None.ensures.steps in
    let empty : into_iter_items at.staged-iterator ≡ [] =
    none_of (into_iter_items at.staged-iterator) (sym at.invariant.left ∙ none.0) in
    let all = sym (append-nil at.yielded) ∙ rw empty at at.invariant.all
    ∙ c.into_iter-staged-iterator.ensures.into_iter_gives.0 in
    subst (λ (list : _). IsPiled (lists ++ map source_view list ∷ []) at.piled) all
    (at.invariant.piled lists count is)
