-- What is judged of the file goes into the report.
use Rattle.std.proofs.Common.{◌∙◌, ℕ, List, refl, subst}
use Rattle.dd_walk.specs.ForestViews.{tree_view}
use Rattle.dd_report.specs.Agreements.{standing_below}
use Rattle.dd_report.specs.Batches.{Grows, judged, report_of}
use Rattle.dd_lines.specs.Telling.{Fails}
use Rattle.dd_report.proofs.Batching.{ready_same, report_same}
use Rattle.dd_report.proofs.ToldTrees.{record_cut, record_told, record_unsent, tree_line}
use Rattle.dd_report.proofs.checking.check_record.Goals as goal

pub tell_judgement-requires-clause-ready : goal.tell_judgement-requires-clause-ready
tell_judgement-requires-clause-ready g c =
    ready_same c.args.batch.now c.judge.new.batch c.requires c.in-Ok.ensures.pending

pub returns-in_default-clause-ready : goal.returns-in_default-clause-ready
returns-in_default-clause-ready g c =
    ready_same c.args.batch.now c.judge.new.batch c.requires c.in_default.ensures.pending

pub returns-in_default-clause-checks : goal.returns-in_default-clause-checks
returns-in_default-clause-checks g c = λ above said.
    record_cut g.F.In.Read
    (g.F.Files.held c.args.files.now) c.args.at.check.folder.now c.args.at.check.comparison c.args.at.check.style
    (Unit {0})
    (standing_below above (tree_view c.args.tree.now).node) (g.F.Files.refusals c.args.files.now)
    (g.F.Files.refusals c.judge.new.files)
    (report_of g.W.Write c.args.lines.now c.args.batch.now)
    (report_of g.W.Write c.args.lines.now c.judge.new.batch)
    (c.in_default.ensures.unrefused refl)
    (report_same g.W.Write c.args.lines.now c.args.batch.now c.judge.new.batch c.requires.0
    c.in_default.ensures.pending)

pub returns-in-Ok-tell_judgement-clause-checks : goal.returns-in-Ok-tell_judgement-clause-checks
returns-in-Ok-tell_judgement-clause-checks g c = λ above said.
    rw (c.in-Ok-tell_judgement.ensures.refusals ∙ c.advance.ensures.refusals)
    (record_told g.F.In.Read
    (g.F.Files.held c.args.files.now) c.args.at.check.folder.now c.args.at.check.comparison c.args.at.check.style
    (tt {0})
    (standing_below above (tree_view c.args.tree.now).node) (g.F.Files.refusals c.args.files.now)
    (g.F.Files.refusals c.judge.new.files) (judged c.in-Ok.judgement c.judge.new.batch.next.slot)
    (report_of g.W.Write c.args.lines.now c.args.batch.now)
    (report_of g.W.Write c.args.lines.now c.judge.new.batch)
    (report_of g.W.Write c.tell_judgement.new.lines c.tell_judgement.new.batch)
    (report_same g.W.Write c.args.lines.now c.args.batch.now c.judge.new.batch c.requires.0 c.in-Ok.ensures.pending)
    (c.in-Ok.ensures.found above said)
    (subst (λ (text : List ℕ). Grows text (report_of g.W.Write c.args.lines.now c.judge.new.batch)
    (report_of g.W.Write c.tell_judgement.new.lines c.tell_judgement.new.batch))
    (tree_line c.args.at.check.style c.args.tree.now c.file_in.result.now
    (judged c.in-Ok.judgement c.judge.new.batch.next.slot) c.file_in.ensures) c.in-Ok-tell_judgement.ensures.told))

pub returns-in-Err-clause-checks : goal.returns-in-Err-clause-checks
returns-in-Err-clause-checks g c = λ above said.
    rw (c.in-Err.ensures.refusals ∙ c.advance.ensures.refusals)
    (record_unsent g.F.In.Read
    (g.F.Files.held c.args.files.now) c.args.at.check.folder.now c.args.at.check.comparison c.args.at.check.style
    (Unit {0})
    (standing_below above (tree_view c.args.tree.now).node) (g.F.Files.refusals c.args.files.now)
    (g.F.Files.refusals c.judge.new.files) (judged c.in-Ok.judgement c.judge.new.batch.next.slot)
    (report_of g.W.Write c.args.lines.now c.args.batch.now)
    (report_of g.W.Write c.args.lines.now c.judge.new.batch)
    (report_of g.W.Write c.tell_judgement.new.lines c.tell_judgement.new.batch)
    (report_same g.W.Write c.args.lines.now c.args.batch.now c.judge.new.batch c.requires.0 c.in-Ok.ensures.pending)
    (c.in-Ok.ensures.found above said)
    (subst (λ (text : List ℕ). Fails text (report_of g.W.Write c.args.lines.now c.judge.new.batch).course
    (report_of g.W.Write c.tell_judgement.new.lines c.tell_judgement.new.batch).course)
    (tree_line c.args.at.check.style c.args.tree.now c.file_in.result.now
    (judged c.in-Ok.judgement c.judge.new.batch.next.slot) c.file_in.ensures) c.in-Err.ensures.told))
