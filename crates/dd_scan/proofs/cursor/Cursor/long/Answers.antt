use Rattle.std.proofs.Common.{List, ℕ}
use Rattle.std.proofs.lemmas.Result.{err_from_is_err_and}
use Rattle.dd_grammar.specs.Reading.{At}
use Rattle.dd_stream.proofs.Along.{scans_same}
use Rattle.dd_scan.proofs.Feeding.{long_found, long_fails}
use Rattle.dd_grammar.proofs.Loops.{fails_along}
use Rattle.dd_scan.proofs.cursor.Cursor.long.Goals as goal

pub returns-in_err-take-clause-found : goal.returns-in_err-take-clause-found
returns-in_err-take-clause-found g c =
    let p = err_from_is_err_and c.from_residual.result c.from_residual.ensures.1 in
    let at : List ℕ → At = λ bytes. record { left = c.args.self.now.left; bytes = bytes } in
    rw (p.1, p.2) (scans_same _ _ _ _ _ _ c.in_err-take.ensures.found
    (λ bytes rest t few h. fails_along c.in_err-take.field-0.0 _ _ h (λ e. long_fails _ (at bytes) e c.take.auto.room)))

pub returns-clause-found : goal.returns-clause-found
returns-clause-found g c =
    let at : List ℕ → At = λ bytes. record { left = c.args.self.now.left; bytes = bytes } in
    scans_same _ _ _ _ _ _ c.in_ok-take.ensures.found (λ bytes rest t few h. rw c.from_le_bytes.ensures
    (long_found _ (at bytes) _ _ c.take.auto.room h))
