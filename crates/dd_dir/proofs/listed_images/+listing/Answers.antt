use Rattle.std.proofs.Common.{◌≡◌, ◌++◌, map, arith, Err, refl, sym, ap, ◌∙◌}
use Rattle.std.proofs.lemmas.Grind.{common_steps}
use Rattle.std.proofs.lemmas.List.{append-nil, map-append}
use Rattle.std.proofs.lemmas.Result.{err_from_is_err_and}
use Rattle.dd_walk.specs.declared.forest.Tree.{Tree}
use Rattle.dd_walk.specs.ForestViews.{tree_view}
use Rattle.dd_dir.specs.OwnViews.{above_view, listed_of, listed_values, listed_view}
use Rattle.dd_dir.proofs.ListedImages.{adding_fails, adding_goes_on, one_fails, one_listed}
use Rattle.dd_dir.proofs.listed_images.+listing.Goals as goal
use Rattle.dd_dir.proofs.listed_images.+listing.Goals.{list_one-in-Some-listed_at+in_ok-push, list_one-in_default-listed_at}

pub list-loop-tree-preserved : goal.list-loop-tree-preserved
list-loop-tree-preserved t c =
    let above = above_view c.args.above in
    let done = c.in_ok-list_one.ensures in
    adding_goes_on above c.args.trees.now c.loop-tree.tree-index c.tree-item.result
    (map listed_view c.args.images.now.items) (map listed_view c.loop-tree.images.items)
    (map listed_view c.list_one.new.images.items) done.0 c.loop-tree-test.true c.loop-tree.invariant
    (ap (λ (x : Tree). listed_of above (tree_view x)) (sym c.tree-item.is) ∙ done.1) done.2

pub list-returns-in_err-list_one : goal.list-returns-in_err-list_one
list-returns-in_err-list_one t c =
    let p = err_from_is_err_and c.from_residual.result c.from_residual.ensures.1 in
    let fails : c.from_residual.result ≡ Err c.in_err-list_one.field-0.0 = rw (p.1, p.2) refl in
    adding_fails (above_view c.args.above) c.args.trees.now c.loop-tree.tree-index c.tree-item.result
    (map listed_view c.args.images.now.items) (map listed_view c.loop-tree.images.items)
    (map listed_view c.list_one.new.images.items) c.in_err-list_one.field-0.0 c.list_one.result c.from_residual.result
    c.loop-tree-test.true c.tree-item.is c.loop-tree.invariant c.in_err-list_one.was fails c.list_one.ensures

pub list_one-returns-in-Some : goal.list_one-returns-in-Some
list_one-returns-in-Some t c =
    let images = map listed_view c.args.images.now.items in
    one_fails (Unit {0}) (above_view c.args.above) c.args.tree.now c.level_in.result c.fault_at.result c.in-Some.fault
    images images c.level_in.ensures c.fault_at.ensures c.in-Some.is

pub list_one-returns : goal.list_one-returns
list_one-returns t c =
    let old = c.args.images.now.items in
    let mid = c.match-listed_at.images.items in
    let listed = listed_values c.listed_at.result in
    let added : map listed_view mid ≡ map listed_view old ++ listed = elim c.match-listed_at.branch [
      | list_one-in-Some-listed_at+in_ok-push w ↦ grind (arith, common_steps, map-append)
      | list_one-in_default-listed_at w ↦ grind (arith, common_steps, append-nil)
    ] in
    one_listed (above_view c.args.above) (above_view c.above_children.result) c.args.tree.now c.deref.result.now
    c.level_in.result c.fault_at.result listed (map listed_view old) (map listed_view mid)
    (map listed_view c.list.new.images.items)
    c.list.result c.level_in.ensures c.fault_at.ensures c.in_default.is c.listed_at.ensures added c.above_children.ensures
    c.deref.ensures.value c.list.ensures
