use Rattle.std.proofs.Common.{Ok, ◌≡◌, sym}
use Rattle.std.proofs.lemmas.Result.{err_from_is_err_and}
use Rattle.dd_stream.proofs.Along.{scans_same}
use Rattle.dd_part10.proofs.Taken.{mapped_fails, mapped_gives, set_below, set_taken}
use Rattle.dd_part10.proofs.feed_file.take_data_set.Goals as goal

pub returns-in_err-scan-clause-found : goal.returns-in_err-scan-clause-found
returns-in_err-scan-clause-found g c =
    let p = err_from_is_err_and c.from_residual.result c.from_residual.ensures.1 in
    rw (p.1, p.2) (scans_same _ _ _ _ _ _ c.take_set.ensures.found
    (λ bytes rest t few h. mapped_fails c.args.wanted.now c.take_set.result c.map_err.result c.in_err-scan.field-0.0
    c.args.syntax bytes c.map_err.ensures.cases c.in_err-scan.was h))

pub returns-then-not-may_follow-clause-found : goal.returns-then-not-may_follow-clause-found
returns-then-not-may_follow-clause-found g c =
    let scan = c.in_ok-scan.scan in
    let read : c.take_set.result ≡ Ok scan = mapped_gives c.take_set.result c.map_err.result scan
    c.map_err.ensures.cases c.in_ok-scan.was in
    scans_same _ _ _ _ _ _ c.take_set.ensures.found
    (λ bytes rest t few h. (
      set_below c.args.wanted.now scan c.args.syntax bytes (rw read at h) (sym c.if-not-may_follow.ensures),
      λ is. absurd (cc),
    ))

pub returns-clause-found : goal.returns-clause-found
returns-clause-found g c =
    let scan = c.in_ok-scan.scan in
    let read : c.take_set.result ≡ Ok scan = mapped_gives c.take_set.result c.map_err.result scan
    c.map_err.ensures.cases c.in_ok-scan.was in
    scans_same _ _ _ _ _ _ c.take_set.ensures.found
    (λ bytes rest t few h. set_taken c.args.wanted.now scan c.args.syntax bytes (rw read at h)
    (sym c.if-not-may_follow.ensures))
