-- What is left of each tree, one after the other.
use Rattle.std.proofs.Common.{◌≡◌, ◌∙◌, ◌++◌, ◌∷◌, [], List, ap, arith, false, map, rules, subst, sym, true}
use Rattle.std.proofs.lemmas.Grind.{common_steps}
use Rattle.std.specs.List.{flat_map}
use Rattle.std.specs.Vec.Iter.{into_iter_items}
use Rattle.dd_walk.specs.declared.forest.Tree.{Tree, out-Tree, roll-Tree, the_lemmas}
use Rattle.dd_walk.specs.ForestViews.{Branch, tree_view, trees_view}
use Rattle.dd_selection.specs.Cuts.{cut_branch}
use Rattle.dd_selection.specs.Selection.{selection_view}
use Rattle.dd_selection.proofs.CutTrees.{all_cut, all_selected, branch_cut}
use Rattle.dd_selection.proofs.cuts.+cuts.Goals as goal

pub cut_trees-returns-then-is_everything : goal.cut_trees-returns-then-is_everything
cut_trees-returns-then-is_everything t c = record {
  exact = all_selected (selection_view c.args.selection) (trees_view c.args.trees.items) (search rules);
}

pub cut_trees-returns : goal.cut_trees-returns
cut_trees-returns t c =
    let values = selection_view c.args.selection in
    let done : into_iter_items c.loop-tree.tree-iterator ≡ [] = grind (arith, common_steps) in
    record {
      exact = all_cut values c.loop-tree.kept.items c.args.trees.items
          (subst (λ (rest : List Tree). map tree_view c.loop-tree.kept.items
          ++ flat_map (cut_branch values) (map tree_view rest)
          ≡ flat_map (cut_branch values) (map tree_view c.args.trees.items)) done c.loop-tree.invariant);
    }

pub cut_tree-returns : goal.cut_tree-returns
cut_tree-returns t c =
    let branch = tree_view c.args.tree in
    let same : tree_view (roll-Tree (record {
      at = (out-Tree c.args.tree).at;
      kind = (out-Tree c.args.tree).kind;
      in_use = (out-Tree c.args.tree).in_use;
      set = (out-Tree c.args.tree).set;
      below = c.in_ok-below.below;
    })) ≡ record { node = branch.node; below = trees_view c.in_ok-below.below.items } = search (rules, the_lemmas) in
    record {
      exact = ap (λ (x : Branch). x ∷ []) same
          ∙ branch_cut (selection_view c.args.selection) (selection_view c.left_below-left.result) c.args.tree
          c.in_ok-below.below.items c.deref.result.now true c.left_below-left.ensures c.in_ok-below.ensures.exact
          c.deref.ensures.value (sym c.if-not-stays.false ∙ c.stays.ensures);
    }

pub cut_tree-returns-then-not-stays : goal.cut_tree-returns-then-not-stays
cut_tree-returns-then-not-stays t c = record {
  exact = branch_cut (selection_view c.args.selection) (selection_view c.left_below-left.result) c.args.tree
      c.in_ok-below.below.items c.deref.result.now false c.left_below-left.ensures c.in_ok-below.ensures.exact
      c.deref.ensures.value (sym c.if-not-stays.true ∙ c.stays.ensures);
}
