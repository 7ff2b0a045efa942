use Rattle.std.proofs.Common.{◌≡◌, ◌≤◌, ℕ, replicate, length, take, sym, arith, subst}
use Rattle.std.proofs.lemmas.Result.{err_from_is_err_and}
use Rattle.std.proofs.lemmas.List.{length-take-le, length-replicate}
use Rattle.dd_stream.proofs.Along.{scans_same, scans_then}
use Rattle.dd_part10.specs.Reading.{split_at, after_length}
use Rattle.dd_part10.specs.Taking.{GroupTaken}
use Rattle.dd_part10.proofs.Taken.{meta_without_count}
use Rattle.dd_part10.proofs.feed_file.take_meta.Goals as goal

-- the first `n` bytes of a larger room are `n` bytes
front_is : (n size : ℕ) → n ≤ size → length {A = ℕ} (take n (replicate size 0)) ≡ n
front_is n size few = length-take-le n (replicate {A = ℕ} size 0) (omega (arith, length-replicate {A = ℕ} size 0))

pub returns-in_err-count-clause-found : goal.returns-in_err-count-clause-found
returns-in_err-count-clause-found g c =
    let p = err_from_is_err_and c.from_residual.result c.from_residual.ensures.1 in
    rw (p.1, p.2) (scans_same _ _ _ _ _ _ c.in_err-count.ensures.found
    (λ bytes rest t few h. meta_without_count c.in_err-count.field-0.0 bytes rest c.in_err-count.ensures.memory h))

pub returns-then-count-le-SHORT_GROUP-clause-found : goal.returns-then-count-le-SHORT_GROUP-clause-found
returns-then-count-le-SHORT_GROUP-clause-found g c =
    let n = c.in_ok-count.field-0 in
    let size = front_is n 1024 c.if-count-le-SHORT_GROUP.true in
    scans_then _ _ g.met.F.Feed.goes g.met.F.Feed.tells_before _ _ _ _ (λ mid rest. GroupTaken _ _ mid rest) _
    c.in_ok-count.ensures.found c.take_group.ensures.found
    (λ bytes mid rest few fewer h k. k bytes (subst (λ (m : ℕ). after_length bytes ≡ split_at m mid) (sym size) h))

pub returns-else-count-le-SHORT_GROUP-clause-found : goal.returns-else-count-le-SHORT_GROUP-clause-found
returns-else-count-le-SHORT_GROUP-clause-found g c =
    let n = c.in_ok-count.field-0 in
    let size = front_is n 65536 c.in_ok-count.ensures.few in
    scans_then _ _ g.met.F.Feed.goes g.met.F.Feed.tells_before _ _ _ _ (λ mid rest. GroupTaken _ _ mid rest) _
    c.in_ok-count.ensures.found c.take_group-else-count-le-SHORT_GROUP.ensures.found
    (λ bytes mid rest few fewer h k. k bytes (subst (λ (m : ℕ). after_length bytes ≡ split_at m mid) (sym size) h))
