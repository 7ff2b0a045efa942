use Rattle.std.proofs.Common.{List, ℕ}
use Rattle.std.proofs.lemmas.Result.{err_from_is_err_and}
use Rattle.dd_grammar.specs.Reading.{At}
use Rattle.dd_stream.proofs.Along.{scans_same}
use Rattle.dd_scan.proofs.Feeding.{item_front_fails, item_front_none, item_front_found}
use Rattle.dd_grammar.proofs.Loops.{fails_along}
use Rattle.dd_scan.proofs.cursor.Cursor.item_front.Goals as goal

pub returns-in_err-head-clause-found : goal.returns-in_err-head-clause-found
returns-in_err-head-clause-found g c =
    let p = err_from_is_err_and c.from_residual.result c.from_residual.ensures.1 in
    let at : List ℕ → At = λ bytes. record { left = c.args.self.now.left; bytes = bytes } in
    rw (p.1, p.2) (scans_same _ _ _ _ _ _ c.in_err-head.ensures.found
    (λ bytes rest t few h. fails_along c.in_err-head.field-0.0 _ _ h (item_front_fails c.args.form (at bytes))))

pub returns-in-None-clause-found : goal.returns-in-None-clause-found
returns-in-None-clause-found g c =
    let at : List ℕ → At = λ bytes. record { left = c.args.self.now.left; bytes = bytes } in
    scans_same _ _ _ _ _ _ c.in_ok-head.ensures.found (λ bytes rest t few h. item_front_none c.args.form (at bytes) _
    (rw c.in-None.is at h))

pub returns-in-Some-clause-found : goal.returns-in-Some-clause-found
returns-in-Some-clause-found g c =
    let at : List ℕ → At = λ bytes. record { left = c.args.self.now.left; bytes = bytes } in
    scans_same _ _ _ _ _ _ c.in_ok-head.ensures.found (λ bytes rest t few h.
    item_front_found c.args.form (at bytes) c.in-Some.head _ _ (rw c.in-Some.is at h) c.item_opening.ensures.exact)
