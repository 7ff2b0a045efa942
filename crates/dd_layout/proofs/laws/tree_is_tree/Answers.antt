use Rattle.dd_layout.proofs.Trees.{tree_is_tree}
use Rattle.dd_layout.proofs.laws.tree_is_tree.Goals as goal

pub returns : goal.returns
returns c = tree_is_tree
