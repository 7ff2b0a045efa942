-- After the findings the end.
use Rattle.std.proofs.Common.{◌≡◌, Err, refl}
use Rattle.std.proofs.lemmas.Result.{err_from_is_err_and}
use Rattle.std.specs.Prelude.{not, nat_lt, ◌==◌}
use Rattle.dd_lines.specs.Telling.{way_of}
use Rattle.dd_report.proofs.ToldTrees.{all_checked, end_unsent, some_unreached, walk_ends}
use Rattle.dd_report.proofs.checking.check_forest.Goals as goal

pub returns-then-found-clause-checks : goal.returns-then-found-clause-checks
returns-then-found-clause-checks g c =
    all_checked g.F.In.Read
    (g.F.Files.held c.args.files.now) c.args.check.folder.now c.args.check.comparison c.args.check.style
    c.args.forest.now
    c.deref.result.now c.in_ok-found.found (not (c.args.forest.now.unreached == 0)) c.in_ok-found.found
    (g.F.Files.refusals c.args.files.now) (g.F.Files.refusals c.check_counted.new.files) _ _ _ c.deref.ensures.value
    (c.in_ok-found.ensures.checks) c.in-Ok.ensures.written refl (rw c.if-found.true refl)

pub returns-else-found-clause-checks : goal.returns-else-found-clause-checks
returns-else-found-clause-checks g c =
    all_checked g.F.In.Read
    (g.F.Files.held c.args.files.now) c.args.check.folder.now c.args.check.comparison c.args.check.style
    c.args.forest.now
    c.deref.result.now c.in_ok-found.found (nat_lt 0 c.args.forest.now.unreached) _
    (g.F.Files.refusals c.args.files.now) (g.F.Files.refusals c.check_counted.new.files) _ _ _ c.deref.ensures.value
    (c.in_ok-found.ensures.checks) c.in-Ok.ensures.written (some_unreached c.args.forest.now.unreached)
    (rw c.if-found.false refl)

pub returns-in-Err-clause-checks : goal.returns-in-Err-clause-checks
returns-in-Err-clause-checks g c =
    end_unsent g.F.In.Read
    (g.F.Files.held c.args.files.now) c.args.check.folder.now c.args.check.comparison c.args.check.style
    c.args.forest.now c.deref.result.now c.in_ok-found.found (g.F.Files.refusals c.args.files.now)
    (g.F.Files.refusals c.check_counted.new.files)
    (way_of g.W.Write c.args.lines.now)
    (way_of g.W.Write c.check_counted.new.lines)
    (way_of g.W.Write c.tell_end.new.lines)
    c.deref.ensures.value (c.in_ok-found.ensures.checks) c.in-Err.ensures.written

pub returns-in_err-found-clause-checks : goal.returns-in_err-found-clause-checks
returns-in_err-found-clause-checks g c =
    let r = c.from_residual.result in
    let p = err_from_is_err_and r c.from_residual.ensures.1 in
    let fails : r ≡ Err c.in_err-found.field-0.0 = rw (p.1, p.2) refl in
    walk_ends g.F.In.Read
    (g.F.Files.held c.args.files.now) c.args.check.folder.now c.args.check.comparison c.args.check.style
    c.args.forest.now
    c.deref.result.now r c.check_counted.result c.in_err-found.field-0.0 (g.F.Files.refusals c.args.files.now)
    (g.F.Files.refusals c.check_counted.new.files) _ _ c.deref.ensures.value fails c.in_err-found.was
    c.check_counted.ensures.checks
