use Rattle.std.proofs.Common.{◌∙◌, sym}
use Rattle.std.proofs.lemmas.Result.{err_from_is_err_and}
use Rattle.dd_stream.proofs.Along.{scans_same, scans_then}
use Rattle.dd_grammar.proofs.Failing.{fails_is}
use Rattle.dd_scan.proofs.FragmentSteps.{fragment_none, fragment_found, front_stops, length_fails, take_stops}
use Rattle.dd_scan.proofs.skipping.skip_fragment.Goals as goal

pub returns-in_err-n-clause-found : goal.returns-in_err-n-clause-found
returns-in_err-n-clause-found g c =
    let p = err_from_is_err_and c.from_residual.result c.from_residual.ensures.1 in
    rw (p.1, p.2) (scans_same _ _ _ _ _ _ c.in_err-n.ensures.found
    (λ bytes rest t few h. front_stops (record { left = c.args.at.now.left; bytes = bytes }) c.in_err-n.field-0.0 h))

pub returns-in_default-clause-found : goal.returns-in_default-clause-found
returns-in_default-clause-found g c =
    scans_same _ _ _ _ _ _ c.in_ok-n.ensures.found
    (λ bytes rest t few h. fragment_none (record { left = c.args.at.now.left; bytes = bytes }) _ (rw c.in_default.is at
    h))

pub returns-in_err-length-clause-found : goal.returns-in_err-length-clause-found
returns-in_err-length-clause-found g c =
    let p = err_from_is_err_and c.from_residual-in_err-length.result c.from_residual-in_err-length.ensures.1 in
    rw (p.1, p.2) (scans_same _ _ _ _ _ _ c.in_ok-n.ensures.found
    (λ bytes rest t few h. fails_is c.in_err-length.field-0.0 _ (length_fails (record {
      left
          = c.args.at.now.left;
      bytes = bytes;
    })
    c.in-Some.n _ c.in_err-length.field-0.0 (rw c.in-Some.is at h) (sym c.fragment_length.ensures.exact
    ∙ c.in_err-length.was))))

pub returns-in_err-pass-clause-found : goal.returns-in_err-pass-clause-found
returns-in_err-pass-clause-found g c =
    let p = err_from_is_err_and c.from_residual-in_err-pass.result c.from_residual-in_err-pass.ensures.1 in
    let len = sym c.fragment_length.ensures.exact ∙ c.in_ok-length.was in
    rw (p.1, p.2) (scans_then _ _ g.met.F.Feed.goes g.met.F.Feed.tells_before _ _ _ _ _ _ c.in_ok-n.ensures.found
    c.in_err-pass.ensures.found
    (λ bytes mid rest few fewer h k. take_stops (record { left = c.args.at.now.left; bytes = bytes }) c.in-Some.n
    c.in_ok-length.length _
    c.in_err-pass.field-0.0 (rw c.in-Some.is at h) len k))

pub returns-clause-found : goal.returns-clause-found
returns-clause-found g c =
    let len = sym c.fragment_length.ensures.exact ∙ c.in_ok-length.was in
    scans_then _ _ g.met.F.Feed.goes g.met.F.Feed.tells_before _ _ _ _ _ _ c.in_ok-n.ensures.found
    c.in_ok-pass.ensures.found
    (λ bytes mid rest few fewer h k. (
      k.0,
      fragment_found (record { left = c.args.at.now.left; bytes = bytes }) c.in-Some.n c.in_ok-length.length _ _ k.0
          (rw c.in-Some.is at h) len k.1,
    ))
