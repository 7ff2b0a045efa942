-- What the reader gave and what it has left are the bytes at the path.
use Rattle.std.proofs.Common.{refl}
use Rattle.dd_walk.specs.ForestViews.{tree_view}
use Rattle.dd_report.specs.Batches.{judged}
use Rattle.dd_report.specs.declared.findings.Judgement.{Judgement}
use Rattle.dd_report.proofs.ToldTrees.{file_found}
use Rattle.dd_report.proofs.checking.judge.Goals as goal

pub returns-in-Ok-clause-found : goal.returns-in-Ok-clause-found
returns-in-Ok-clause-found g c =
    let opened = c.in-Ok.ensures.opened in
    let id = c.in-Some.ensures.some in
    file_found g.F.In.Read
    (g.F.Files.held c.args.files.now) c.args.check.folder.now c.args.check.comparison c.judge_file.result
    (λ (judgement : Judgement). judged judgement c.judge_file.new.batch.next.slot)
    c.args.inherited _ _ c.in-Some.file.now (tree_view c.args.tree.now).node _ _ (g.F.Files.refusals c.args.files.now)
    (g.F.Files.refusals c.member.new.self) id.1 id.0.0 id.0.1 c.as_str.ensures.value c.in_ok-path.ensures opened.left
    opened.given opened.calls opened.failures (c.in-Ok.ensures.call.worked refl) c.judge_file.ensures.found
