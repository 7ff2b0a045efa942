use Rattle.std.proofs.Common.{Err, refl, ap}
use Rattle.std.proofs.lemmas.Result.{err_from_is_err_and}
use Rattle.dd_stream.proofs.Along.{scans_same, scans_then}
use Rattle.dd_part10.proofs.Taken.{file_without_head, file_without_set, file_taken}
use Rattle.dd_part10.proofs.feed_file.take_file.Goals as goal

pub returns-in_err-meta : goal.returns-in_err-meta
returns-in_err-meta g c =
    let p = err_from_is_err_and c.from_residual.result c.from_residual.ensures.1 in
    rw (p.1, p.2) (record {
      found = scans_same _ _ _ _ _ _ c.in_err-meta.ensures.found
          (λ bytes rest t few h. file_without_head c.args.wanted.now c.in_err-meta.field-0.0 bytes rest
          (λ is. c.in_err-meta.ensures.memory (ap (λ f. Err f) is)) h);
    })

pub returns-in_err-scan : goal.returns-in_err-scan
returns-in_err-scan g c =
    let p = err_from_is_err_and c.from_residual-in_err-scan.result c.from_residual-in_err-scan.ensures.1 in
    rw (p.1, p.2) (record {
      found = scans_then _ _ g.met.F.Feed.goes g.met.F.Feed.tells_before _ _ _ _ _ _ c.in_ok-meta.ensures.found
          c.in_err-scan.ensures.found
          (λ bytes mid rest few fewer h k. file_without_set c.args.wanted.now c.in_err-scan.field-0.0 bytes mid
          c.in_ok-meta.meta c.in_ok-meta.syntax (λ is. c.in_err-scan.ensures.memory (ap (λ f. Err f) is)) h k);
    })

pub returns : goal.returns
returns g c = record {
  found = scans_then _ _ g.met.F.Feed.goes g.met.F.Feed.tells_before _ _ _ _ _ _ c.in_ok-meta.ensures.found
      c.in_ok-scan.ensures.found
      (λ bytes mid rest few fewer h k. file_taken c.args.wanted.now
      (record { meta = c.in_ok-meta.meta; found = c.in_ok-scan.scan.found }) c.in_ok-scan.scan bytes mid
      c.in_ok-meta.syntax refl h k);
}
