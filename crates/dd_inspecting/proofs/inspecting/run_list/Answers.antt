-- The directory could not be read, or has a fault, or its listing was printed.
use Rattle.std.proofs.Common.{false, rules}
use Rattle.std.proofs.lemmas.Result.{err_from_is_err_and}
use Rattle.dd_faults.proofs.Due.{engine_due}
use Rattle.dd_inspecting.proofs.Inspected.{list_unsent, listed}
use Rattle.dd_inspecting.proofs.DirectoryGrounds.{list_grounds}
use Rattle.dd_inspecting.proofs.inspecting.run_list.Goals as goal

pub returns-in_err-bytes-clause-due : goal.returns-in_err-bytes-clause-due
returns-in_err-bytes-clause-due g c =
    let p = err_from_is_err_and c.from_residual.result c.from_residual.ensures.1 in
    rw (p.1, p.2) (c.in_err-bytes.ensures.due false)

pub returns-in-Err-clause-due : goal.returns-in-Err-clause-due
returns-in-Err-clause-due g c =
    engine_due g.F.In.Read _ _ false c.refusal_of.result.fault c.refusal_of.ensures.engine

pub returns-in_err-bytes-clause-grounds : goal.returns-in_err-bytes-clause-grounds
returns-in_err-bytes-clause-grounds g c =
    let p = err_from_is_err_and c.from_residual.result c.from_residual.ensures.1 in
    rw (p.1, p.2) (list_grounds c.args.listing.folder.now (g.F.Files.held c.args.files.now)
    c.in_err-bytes.field-0.0.fault c.in_err-bytes.ensures.grounds)

pub returns-in-Err-clause-grounds : goal.returns-in-Err-clause-grounds
returns-in-Err-clause-grounds g c =
    c.refusal_of.ensures.grounds c.args.listing.folder.now c.in_ok-bytes.bytes.items _ c.in_ok-bytes.ensures.read
    (rw c.deref.ensures.value at c.in-Err.ensures.refused)

pub returns-in-Ok-list_file_set-clause-lists : goal.returns-in-Ok-list_file_set-clause-lists
returns-in-Ok-list_file_set-clause-lists g c =
    listed g.O.Write g.F.FoundPaths.is_shown c.args.listing.folder.now c.in_ok-bytes.bytes.items
    (g.F.Files.held c.args.files.now) c.args.listing.style c.args.listing.form c.args.out.now c.list_file_set.new.to
    c.in_ok-bytes.ensures.read _ (rw c.deref.ensures.value at c.in-Ok.ensures.walk)
    (rw c.in_ok-bytes.ensures.kept at c.in-Ok-list_file_set.ensures.sent)

pub returns-in-Err-Unsent-clause-lists : goal.returns-in-Err-Unsent-clause-lists
returns-in-Err-Unsent-clause-lists g c =
    list_unsent g.O.Write g.F.FoundPaths.is_shown c.args.listing.folder.now c.in_ok-bytes.bytes.items
    (g.F.Files.held c.args.files.now) c.args.listing.style c.args.listing.form c.args.out.now c.list_file_set.new.to
    c.in_ok-bytes.ensures.read _ (rw c.deref.ensures.value at c.in-Ok.ensures.walk)
    (rw c.in_ok-bytes.ensures.kept at c.in-Err-Unsent.ensures.unsent (search rules))
