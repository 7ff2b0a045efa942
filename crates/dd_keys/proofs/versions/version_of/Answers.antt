use Rattle.std.proofs.Common.{Err, ap, is_some, refl}
use Rattle.std.proofs.lemmas.Result.{err_from_is_err_and}
use Rattle.dd_set.specs.Views.{set_view}
use Rattle.dd_part10.specs.Views.{file_view}
use Rattle.dd_keys.specs.Summaries.{summary_at}
use Rattle.dd_keys.proofs.FoundVersions.{file_refused, refused_answers}
use Rattle.dd_keys.proofs.Judging.{judged_answers}
use Rattle.dd_keys.proofs.SummaryLaws.{set_fronts}
use Rattle.dd_keys.proofs.versions.version_of.Goals as goal

pub returns-in_err-file : goal.returns-in_err-file
returns-in_err-file c =
    let p = err_from_is_err_and c.from_residual.result c.from_residual.ensures.1 in
    refused_answers c.args.bytes.now c.from_residual.result c.from_residual.ensures.0
    (rw (p.1, p.2) (file_refused c.args.bytes.now c.in_err-file.field-0.0 c.in_err-file.ensures.fault
    (λ is. c.in_err-file.ensures.group (ap (λ e. Err e) is)) (λ is. c.in_err-file.ensures.set (ap (λ e. Err e) is))))

pub version_from-requires-clause-known : goal.version_from-requires-clause-known
version_from-requires-clause-known c = ap is_some c.in_ok-file.ensures.found.known

pub version_from-requires-clause-fronts : goal.version_from-requires-clause-fronts
version_from-requires-clause-fronts c = set_fronts (set_view c.in_ok-file.file.set)

pub returns : goal.returns
returns c =
    judged_answers c.args.bytes.now c.digest.result (file_view c.in_ok-file.file)
    (λ tag. summary_at tag (set_view c.in_ok-file.file.set)) _
    c.in_ok-file.ensures.fault c.in_ok-file.ensures.found (λ tag _. refl) c.digest.ensures c.version_from.ensures
