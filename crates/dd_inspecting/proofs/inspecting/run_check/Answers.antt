-- What was printed is of the directory in the folder. Reading it neither changes files nor counts as a refusal.
use Rattle.std.proofs.Common.{◌∙◌, false, refl, rules, sym, true≢false}
use Rattle.std.proofs.lemmas.Result.{err_from_is_err_and}
use Rattle.dd_inspecting.proofs.Inspected.{check_broken, check_unsent, nothing_found, something_found}
use Rattle.dd_inspecting.proofs.inspecting.run_check.Goals as goal

pub returns-in-Err-2-clause-checks : goal.returns-in-Err-2-clause-checks
returns-in-Err-2-clause-checks g c =
    check_broken g.F.In.Read g.O.Write c.args.check.folder.now c.in_ok-bytes.bytes.items
    (g.F.Files.held c.args.files.now) c.args.check.comparison c.args.check.style
    _ _ c.args.out.now c.tell_broken.new.out c.in_ok-bytes.ensures.read
    c.in-Err.fault c.tell_broken.result (rw c.deref.ensures.value at c.in-Err.ensures.refused)
    (λ memory. true≢false (sym (c.is_want_of_memory.ensures.1 memory) ∙ c.if-is_want_of_memory.false))
    c.tell_broken.ensures.status c.tell_broken.ensures.printed c.tell_broken.ensures.failed

pub returns-in-Ok-true-clause-checks : goal.returns-in-Ok-true-clause-checks
returns-in-Ok-true-clause-checks g c =
    something_found g.F.In.Read g.O.Write c.args.check.folder.now c.in_ok-bytes.bytes.items
    (g.F.Files.held c.args.files.now) c.args.check.comparison c.args.check.style
    (g.F.Files.refusals c.args.files.now) (g.F.Files.refusals c.check_records.new.files) c.args.out.now
    c.check_records.new.to c.in_ok-bytes.ensures.read _ _ (rw c.deref.ensures.value at c.in-Ok.ensures.walk)
    (rw (c.in_ok-bytes.ensures.kept, c.in_ok-bytes.ensures.worked refl) at c.in-Ok-true.ensures.told)
    (search rules)

pub returns-in-Ok-false-clause-checks : goal.returns-in-Ok-false-clause-checks
returns-in-Ok-false-clause-checks g c =
    nothing_found g.F.In.Read g.O.Write c.args.check.folder.now c.in_ok-bytes.bytes.items
    (g.F.Files.held c.args.files.now) c.args.check.comparison c.args.check.style
    (g.F.Files.refusals c.args.files.now) (g.F.Files.refusals c.check_records.new.files) c.args.out.now
    c.check_records.new.to c.in_ok-bytes.ensures.read _ _ (rw c.deref.ensures.value at c.in-Ok.ensures.walk)
    (rw (c.in_ok-bytes.ensures.kept, c.in_ok-bytes.ensures.worked refl) at c.in-Ok-false.ensures.told)
    (search rules)

pub returns-in-Err-Unsent-clause-checks : goal.returns-in-Err-Unsent-clause-checks
returns-in-Err-Unsent-clause-checks g c =
    check_unsent g.F.In.Read g.O.Write c.args.check.folder.now c.in_ok-bytes.bytes.items
    (g.F.Files.held c.args.files.now) c.args.check.comparison c.args.check.style
    (g.F.Files.refusals c.args.files.now) (g.F.Files.refusals c.check_records.new.files) c.args.out.now
    c.check_records.new.to c.in_ok-bytes.ensures.read _ (rw c.deref.ensures.value at c.in-Ok.ensures.walk)
    (rw (c.in_ok-bytes.ensures.kept, c.in_ok-bytes.ensures.worked refl) at
    c.in-Err-Unsent.ensures.unsent (search rules))

pub returns-in_err-bytes-clause-due : goal.returns-in_err-bytes-clause-due
returns-in_err-bytes-clause-due g c =
    let p = err_from_is_err_and c.from_residual.result c.from_residual.ensures.1 in
    rw (p.1, p.2) (c.in_err-bytes.ensures.due false)

pub returns-in_err-bytes-clause-grounds : goal.returns-in_err-bytes-clause-grounds
returns-in_err-bytes-clause-grounds g c =
    let p = err_from_is_err_and c.from_residual.result c.from_residual.ensures.1 in
    rw (p.1, p.2) c.in_err-bytes.ensures.grounds
