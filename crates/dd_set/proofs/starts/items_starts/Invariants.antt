use Rattle.std.proofs.Common.{drop}
use Rattle.dd_encoding.specs.Spelling.{max_levels}
use Rattle.dd_set.specs.Views.{items_view}
use Rattle.dd_set.proofs.Places.{Starting}
use Rattle.dd_set.proofs.starts.items_starts.Given as goal

abbrev pub invariant-loop-item : goal.invariant-loop-item
invariant-loop-item l = Starting l.syntax max_levels l.first (items_view l.items) l.starts.items l.at
    (items_view (drop l.item-index l.items))
