-- What is found of the bytes in the slot is found by reading the file.
use Rattle.std.proofs.Common.{◌∙◌}
use Rattle.dd_walk.specs.ForestViews.{tree_view}
use Rattle.dd_report.specs.Batches.{judged}
use Rattle.dd_report.specs.Checking.{most_read}
use Rattle.dd_report.proofs.Judging.{finds_unreadable, finds_whole, nothing_else}
use Rattle.dd_report.proofs.findings.judge_by_digest.Goals as goal

pub returns-then-fill-clause-found : goal.returns-then-fill-clause-found
returns-then-fill-clause-found g c =
    let slot = c.fill.new.self.next.slot in
    finds_whole g.R.Read most_read c.args.reader.now c.fill.new.reader slot c.args.strict
    (tree_view c.args.tree.now).node c.fill.result (judged c.judge_whole.result slot) c.if-fill.true
    c.fill.ensures.filled
    (λ given taken. c.judge_whole.ensures.found given taken
    ∙ nothing_else c.args.strict (tree_view c.args.tree.now).node given)

pub returns-else-fill-clause-found : goal.returns-else-fill-clause-found
returns-else-fill-clause-found g c =
    finds_unreadable g.R.Read most_read c.args.reader.now c.fill.new.reader c.fill.new.self.next.slot c.args.strict
    (tree_view c.args.tree.now).node c.fill.result c.if-fill.false c.fill.ensures.filled
