use Rattle.std.proofs.Common.{map}
use Rattle.dd_dir.specs.OwnViews.{above_view, listed_view}
use Rattle.dd_dir.proofs.ListedImages.{Adding}
use Rattle.dd_dir.proofs.listed_images.+listing.Given as goal

abbrev pub invariant-list-loop-tree : goal.invariant-list-loop-tree
invariant-list-loop-tree l = Adding (above_view l.above) l.trees l.tree-index
    (map listed_view l.fn.images.items) (map listed_view l.images.items)
