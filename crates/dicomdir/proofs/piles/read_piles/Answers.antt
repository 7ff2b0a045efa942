-- The list of one pile more was read.
use Rattle.std.proofs.Common.{◌≡◌, ◌∙◌, Err, [], ap, arith, get_or, refl, rules, string_bytes, subst, sym}
use Rattle.std.proofs.Common.{true}
use Rattle.std.proofs.lemmas.List.{get_or-map, length-map}
use Rattle.std.proofs.lemmas.Result.{err_from_is_err_and}
use Rattle.std.specs.Prelude.{Option}
use Rattle.dd_files.specs.Files.{Held}
use Rattle.dd_line.specs.Line.{words_of}
use Rattle.dd_pile.specs.Lists.{IfList}
use Rattle.dd_staged.specs.Refusals.{sources_view}
use Rattle.dd_staged.specs.Stages.{IsStage}
use Rattle.dicomdir.proofs.Piling.{none_piled, piled_then}
use Rattle.dicomdir.proofs.piles.read_piles.Goals as goal

pub loop-at-init : goal.loop-at-init
loop-at-init g c = record {
  piled = none_piled _ _ c.new.ensures.items c.new-2.ensures.items c.new-3.ensures.items c.new-4.ensures.absent
      c.new-4.ensures.bad_names c.new-5.ensures;
  kept = c.begin_step.ensures.kept;
}

pub returns-in_err-add_list-in-Ok-clause-refusal : goal.returns-in_err-add_list-in-Ok-clause-refusal
returns-in_err-add_list-in-Ok-clause-refusal g c =
    let p = err_from_is_err_and c.from_residual.result c.from_residual.ensures.1 in
    rw (p.1, p.2) (search rules)

pub returns-in-Err-clause-grounds : goal.returns-in-Err-clause-grounds
returns-in-Err-clause-grounds g c = λ choice bytes links new.
    let piles = c.args.piles.now in
    let at = c.loop-at.at in
    let held = g.F.Files.held c.args.files.now in
    let pile : c.as_str.result.now ≡ get_or (words_of piles) at [] =
    c.as_str.ensures.value ∙ ap (λ word. string_bytes word) c.index-piles-at.is
    ∙ sym (get_or-map (λ word. string_bytes word) piles at c.index-piles-at.result [] c.loop-at-test.true) in
    c.refusal_of.ensures.grounds choice bytes (words_of piles) links held new
    (λ item is. rw (pile, c.loop-at.invariant.kept) at c.in-Err.ensures.bad item (ap Err is))
    (λ is. rw (pile, c.loop-at.invariant.kept) at c.in-Err.ensures.long (ap Err is))

pub loop-at-preserved : goal.loop-at-preserved
loop-at-preserved g c =
    let piles = c.args.piles.now in
    let at = c.loop-at.at in
    let before = c.loop-at.invariant in
    let list = sources_view c.in-Ok.list in
    let pile : c.as_str.result.now ≡ get_or (words_of piles) at [] =
    c.as_str.ensures.value ∙ ap (λ word. string_bytes word) c.index-piles-at.is
    ∙ sym (get_or-map (λ word. string_bytes word) piles at c.index-piles-at.result [] c.loop-at-test.true) in
    let read = subst (λ (path : _). IfList path (λ bytes. IsStage bytes list) (g.F.Files.held c.loop-at.files)) pile
    c.in-Ok.ensures.found in
    record {
      piled = piled_then (words_of piles) at list (g.F.Files.held c.args.files.now) c.loop-at.piled c.add_list.new.piled
          (omega (arith, c.loop-at-test.true, length-map piles (λ word. string_bytes word))) before.piled
          (subst (λ (files : Option Held). IfList (get_or (words_of piles) at []) (λ bytes. IsStage bytes list) files)
          before.kept read) (c.in_ok-add_list-in-Ok.ensures (refl {a = true}));
      kept = c.advance.ensures.kept ∙ c.read_pile.ensures.kept ∙ before.kept;
    }
