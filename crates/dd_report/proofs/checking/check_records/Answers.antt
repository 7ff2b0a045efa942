-- What waits goes at the end, or the writer fails in it.
use Rattle.std.proofs.Common.{◌≢◌, Err, refl, rules}
use Rattle.dd_walk.specs.ForestViews.{walk_view}
use Rattle.dd_lines.specs.Telling.{way_of}
use Rattle.dd_report.specs.declared.checking.ReportFault.TheVariants.{Unsent}
use Rattle.dd_report.proofs.ToldTrees.{rest_unsent, walk_unsent, walk_went}
use Rattle.dd_report.proofs.checking.check_records.Goals as goal

pub returns-then-is_unsent-clause-unsent : goal.returns-then-is_unsent-clause-unsent
returns-then-is_unsent-clause-unsent g c = λ _.
    let unsent = walk_unsent g.F.In.Read
    (g.F.Files.held c.args.files.now) c.args.check.folder.now c.args.check.comparison c.args.check.style
    (walk_view c.args.forest.now) c.check_forest-checked.result (g.F.Files.refusals c.args.files.now)
    (g.F.Files.refusals c.check_forest-checked.new.files)
    (way_of g.W.Write c.new-lines.result)
    (way_of g.W.Write c.check_forest-checked.new.lines)
    c.new-lines.ensures.empty (c.if-is_unsent.ensures.0 refl) c.check_forest-checked.ensures.checks in
    search (rules, unsent)

pub returns-in-Ok-clause-told : goal.returns-in-Ok-clause-told
returns-in-Ok-clause-told g c =
    let sent = walk_went g.F.In.Read
    (g.F.Files.held c.args.files.now) c.args.check.folder.now c.args.check.comparison c.args.check.style
    (walk_view c.args.forest.now) c.check_forest-checked.result (g.F.Files.refusals c.args.files.now)
    (g.F.Files.refusals c.check_forest-checked.new.files)
    (way_of g.W.Write c.new-lines.result)
    (way_of g.W.Write c.check_forest-checked.new.lines)
    (g.W.Write.contents c.flush.new.self.to.now) (g.W.Write.failures c.flush.new.self.to.now) c.new-lines.ensures.empty
    c.check_forest-checked.ensures.checks c.in-Ok.ensures.sent in
    search (rules, sent)

pub returns-in-Err-clause-unsent : goal.returns-in-Err-clause-unsent
returns-in-Err-clause-unsent g c = λ _.
    let not : c.check_forest-checked.result ≢ Err Unsent = λ is. (let e = c.if-is_unsent.ensures.1 is in absurd (cc)) in
    let unsent = rest_unsent g.F.In.Read
    (g.F.Files.held c.args.files.now) c.args.check.folder.now c.args.check.comparison c.args.check.style
    (walk_view c.args.forest.now) c.check_forest-checked.result (g.F.Files.refusals c.args.files.now)
    (g.F.Files.refusals c.check_forest-checked.new.files)
    (way_of g.W.Write c.new-lines.result)
    (way_of g.W.Write c.check_forest-checked.new.lines)
    (g.W.Write.contents c.flush.new.self.to.now) (g.W.Write.failures c.flush.new.self.to.now)
    c.new-lines.ensures.empty not
    c.check_forest-checked.ensures.checks c.in-Err.ensures.unsent in
    search (rules, unsent)
