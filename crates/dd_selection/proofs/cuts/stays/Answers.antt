-- A record that does not lie under all stays where one below it does.
use Rattle.std.proofs.Common.{rules}
use Rattle.dd_selection.specs.Selection.{selection_view, selects_all}
use Rattle.dd_selection.proofs.CutTrees.{some_below}
use Rattle.dd_selection.proofs.cuts.stays.Goals as goal

pub returns-else-is_everything : goal.returns-else-is_everything
returns-else-is_everything c =
    some_below (selects_all (selection_view c.args.left.now)) c.args.below.now c.is_empty.result c.is_empty.ensures
    (search rules)
