use Rattle.std.proofs.Common.{drop}
use Rattle.dd_encoding.specs.Spelling.{max_levels}
use Rattle.dd_set.specs.Views.{elements_view}
use Rattle.dd_set.proofs.Places.{Seeking}
use Rattle.dd_set.proofs.set.DataSet.item_starts.Given as goal

abbrev pub invariant-loop-element : goal.invariant-loop-element
invariant-loop-element l = Seeking l.syntax max_levels l.tag 0 (elements_view l.element-items) l.at
    (elements_view (drop l.element-index l.element-items))
