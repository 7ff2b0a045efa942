-- Showing how many are checked leaves the files as they were, and at the start no file waits.
use Rattle.std.proofs.Common.{[], ◌∙◌}
use Rattle.dd_walk.specs.ForestViews.{trees_view}
use Rattle.dd_report.specs.Agreements.{standings_below}
use Rattle.dd_report.specs.Batches.{report_of}
use Rattle.dd_lines.specs.Telling.{way_of}
use Rattle.dd_report.proofs.Batching.{course_of_none, found_of_none, none_ready}
use Rattle.dd_report.proofs.ToldTrees.{all_closed}
use Rattle.dd_report.proofs.checking.check_counted.Goals as goal

pub check_trees-checked-requires : goal.check_trees-checked-requires
check_trees-checked-requires g c = none_ready c.new-batch.result c.new-batch.ensures.used

pub returns-clause-checks : goal.returns-clause-checks
returns-clause-checks g c =
    let none = c.new-batch.ensures.used in
    rw (
      c.hide_line.ensures.refusals,
      c.found_at_end-found.ensures.refusals,
      ← c.begin_step.ensures.kept,
      ← c.begin_step.ensures.refusals,
    )
    (all_closed g.F.In.Read
    (g.F.Files.held c.begin_step.new.self) c.args.check.folder.now c.args.check.comparison c.args.check.style
    (standings_below [] (trees_view c.args.trees.now)) c.check_trees-checked.result c.found_at_end-found.result
    (g.F.Files.refusals c.begin_step.new.self) (g.F.Files.refusals c.check_trees-checked.new.files)
    (report_of g.W.Write c.args.lines.now c.new-batch.result)
    (report_of g.W.Write c.check_trees-checked.new.lines c.check_trees-checked.new.batch)
    (way_of g.W.Write c.args.lines.now) (way_of g.W.Write c.found_at_end-found.new.lines)
    (found_of_none g.W.Write c.args.lines.now c.new-batch.result none ∙ c.new-batch.ensures.found)
    (course_of_none g.W.Write c.args.lines.now c.new-batch.result none)
    (c.check_trees-checked.ensures.checks [] c.at_root.ensures) c.found_at_end-found.ensures.found)
