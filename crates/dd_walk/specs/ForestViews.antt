-- The trees that a `Forest` stands for.
use Rattle.std.specs.Prelude.{ℕ, List, [], ◌∷◌, map, Option, option_map}
use Rattle.std.specs.Borrow.{Bor}
use Rattle.dd_set.specs.Views.{set_view}
use Rattle.dd_walk.specs.declared.forest.Forest.{Forest}
use Rattle.dd_walk.specs.declared.forest.Tree.{Tree, fold-Tree}
use Rattle.dd_walk.specs.declared.forest.Tree.TheOpen.{Tree-F}
use Rattle.dd_walk.specs.Trees.{Beside, Node, Trees, Walk, no_trees, tree}

-- a record with the trees below it
pub record Branch : Type 0 where
  pub node : Node
  pub below : Trees

-- branches in a row
abbrev pub trees_of : List Branch → Trees
trees_of [] = no_trees
trees_of (branch ∷ branches) = tree branch.node branch.below (trees_of branches)

-- one level, with what is below already seen
abbrev pub tree_step : Tree-F Branch → Branch
tree_step t = record {
  node = record { at = t.at; kind = t.kind.now; in_use = t.in_use; set = set_view t.set };
  below = trees_of t.below.items;
}

abbrev pub tree_view : Tree → Branch
tree_view = fold-Tree Branch tree_step

abbrev pub trees_view : List Tree → Trees
trees_view ts = trees_of (map tree_view ts)

abbrev pub beside_view : List ℕ → Bor (List ℕ) → Option (Bor (List ℕ)) → Beside
beside_view uid id withdrawn = record {
  uid = uid;
  id = id.now;
  withdrawn = option_map (λ value. value.now) withdrawn;
}

abbrev pub walk_view : Forest → Walk
walk_view f = record {
  beside = beside_view f.uid f.id f.withdrawn;
  trees = trees_view f.trees.items;
  unreached = f.unreached;
}
