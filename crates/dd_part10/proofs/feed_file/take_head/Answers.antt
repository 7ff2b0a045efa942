use Rattle.std.proofs.lemmas.Result.{err_from_is_err_and}
use Rattle.dd_stream.proofs.Along.{scans_same, scans_then}
use Rattle.dd_part10.proofs.Taken.{head_without_prefix, head_without_meta, head_without_syntax, head_taken}
use Rattle.dd_part10.proofs.feed_file.take_head.Goals as goal

pub returns-in_err-take_prefix-clause-found : goal.returns-in_err-take_prefix-clause-found
returns-in_err-take_prefix-clause-found g c =
    let p = err_from_is_err_and c.from_residual.result c.from_residual.ensures.1 in
    rw (p.1, p.2) (scans_same _ _ _ _ _ _ c.in_err-take_prefix.ensures.found
    (λ bytes rest t few h. head_without_prefix c.in_err-take_prefix.field-0.0 bytes rest
    c.in_err-take_prefix.ensures.memory h))

pub returns-in_err-meta-clause-found : goal.returns-in_err-meta-clause-found
returns-in_err-meta-clause-found g c =
    let p = err_from_is_err_and c.from_residual-in_err-meta.result c.from_residual-in_err-meta.ensures.1 in
    rw (p.1, p.2) (scans_then _ _ g.met.F.Feed.goes g.met.F.Feed.tells_before _ _ _ _ _ _ c.in_ok-take_prefix.ensures.found
    c.in_err-meta.ensures.found
    (λ bytes mid rest few fewer h k. head_without_meta c.in_err-meta.field-0.0 bytes mid rest h k))

pub returns-in_err-syntax-clause-found : goal.returns-in_err-syntax-clause-found
returns-in_err-syntax-clause-found g c =
    let p = err_from_is_err_and c.from_residual-in_err-syntax.result c.from_residual-in_err-syntax.ensures.1 in
    rw (p.1, p.2) (scans_then _ _ g.met.F.Feed.goes g.met.F.Feed.tells_before _ _ _ _ _ _ c.in_ok-take_prefix.ensures.found
    c.in_ok-meta.ensures.found
    (λ bytes mid rest few fewer h k. head_without_syntax c.in_err-syntax.field-0.0 bytes mid rest
    c.in_ok-meta.meta c.in_err-syntax.ensures.memory h k c.in_err-syntax.ensures.exact))

pub returns-clause-found : goal.returns-clause-found
returns-clause-found g c =
    scans_then _ _ g.met.F.Feed.goes g.met.F.Feed.tells_before _ _ _ _ _ _ c.in_ok-take_prefix.ensures.found
    c.in_ok-meta.ensures.found
    (λ bytes mid rest few fewer h k. head_taken bytes mid rest c.in_ok-meta.meta c.in_ok-syntax.syntax h k
    c.in_ok-syntax.ensures.exact)
