-- The same, by what is still asked for below each record.
use Rattle.std.specs.Prelude.{Bool, List, [], ◌∷◌, if◌then◌else◌}
use Rattle.dd_walk.specs.ForestViews.{Branch}
use Rattle.dd_walk.specs.Trees.{Node, Trees, no_trees, tree}
use Rattle.dd_selection.specs.Selection.{Values, selects_all, left_below}
use Rattle.dd_selection.specs.SelectedRecords.{kept, stays}

abbrev pub cut : Values → Trees → Trees
cut values no_trees = no_trees
cut values (tree node lower after) =
    kept (selects_all (left_below values node)) node (cut (left_below values node) lower) (cut values after)

-- what is left of a record with the trees below it: it, or nothing
abbrev pub kept_branch : Bool → Node → Trees → List Branch
kept_branch lies node lower = if stays lies lower then record { node = node; below = lower } ∷ [] else []

abbrev pub cut_branch : Values → Branch → List Branch
cut_branch values branch =
    kept_branch (selects_all (left_below values branch.node)) branch.node (cut (left_below values branch.node) branch.below)
