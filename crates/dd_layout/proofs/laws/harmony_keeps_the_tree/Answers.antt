use Rattle.dd_layout.proofs.SamePaths.{same_tree, refused_by_the_tree}
use Rattle.dd_layout.proofs.laws.harmony_keeps_the_tree.Goals as goal

pub returns-clause-tree : goal.returns-clause-tree
returns-clause-tree c = same_tree

pub returns-clause-refusal : goal.returns-clause-refusal
returns-clause-refusal c = refused_by_the_tree
