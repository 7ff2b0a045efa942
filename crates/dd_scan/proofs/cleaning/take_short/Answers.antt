-- The whole value, which is shorter than what is kept of one.
use Rattle.std.proofs.Common.{◌≡◌, ◌∙◌, ◌≤◌, ℕ, List, length, Err, ap, sym, refl, arith}
use Rattle.std.proofs.lemmas.Result.{err_from_is_err_and}
use Rattle.std.proofs.lemmas.List.{take_all}
use Rattle.dd_elem.specs.Clean.{clean_of}
use Rattle.dd_elem.proofs.Cleaning.{length-clean_of}
use Rattle.dd_scan.specs.Scan.{Summary, cleaned}
use Rattle.dd_stream.proofs.Along.{scans_same}
use Rattle.dd_scan.proofs.cleaning.take_short.Goals as goal

same_summary : (front same : List ℕ) (n m : ℕ) → front ≡ same → n ≡ m
    → ◌≡◌ {A = Summary} (cleaned front n) (cleaned same m)
same_summary front same n m e f = rw (e, f) refl

pub returns-clause-found : goal.returns-clause-found
returns-clause-found g c =
    let room = c.take.new.room in
    let same : length room ≡ length c.args.room.now = c.take.auto.room in
    let kept = c.in_ok-front.ensures.items_if_clones_equal (λ x y h. h) in
    let cleaned_is = c.clean-cleaned.ensures.exact in
    let most : length c.args.room.now ≤ 64 = c.requires in
    let few : length (clean_of room) ≤ 1024 = omega (arith, length-clean_of room) in
    scans_same _ _ _ _ _ _ c.in_ok-take.ensures.found (λ all rest t fewer h. (
      room,
      same_summary _ _ _ _ (kept ∙ cleaned_is ∙ sym (take_all 1024 (clean_of room) few)) (ap length cleaned_is),
      rw (sym same) h,
    ))

pub returns-in_err-take-clause-found : goal.returns-in_err-take-clause-found
returns-in_err-take-clause-found g c =
    let p = err_from_is_err_and c.from_residual.result c.from_residual.ensures.1 in
    let same : length c.take.new.room ≡ length c.args.room.now = c.take.auto.room in
    rw (p.1, p.2) (scans_same _ _ _ _ _ _ c.in_err-take.ensures.found
    (λ all rest t few h. (rw same at h, λ is. absurd (c.in_err-take.ensures.memory (ap (λ e. Err e) is)))))

pub returns-in_err-front-clause-found : goal.returns-in_err-front-clause-found
returns-in_err-front-clause-found g c =
    let p = err_from_is_err_and c.from_residual-in_err-front.result c.from_residual-in_err-front.ensures.1 in
    let room = c.take.new.room in
    let same : length room ≡ length c.args.room.now = c.take.auto.room in
    rw (p.1, p.2) (scans_same _ _ _ _ _ _ c.in_ok-take.ensures.found (λ all rest t fewer h. (
      tt,
      λ is. (room, rw (sym same) h),
    )))
