use Rattle.std.proofs.Common.{List, ℕ, ◌∙◌}
use Rattle.std.proofs.lemmas.Result.{err_from_is_err_and}
use Rattle.dd_grammar.specs.Reading.{At}
use Rattle.dd_stream.proofs.Along.{scans_same, scans_then}
use Rattle.dd_scan.proofs.Feeding.{front_fails, front_none, front_opens}
use Rattle.dd_grammar.proofs.Failing.{bind_fails, fails_is}
use Rattle.dd_grammar.proofs.Steps.{bind_made}
use Rattle.dd_grammar.proofs.Loops.{fails_along}
use Rattle.dd_scan.proofs.cursor.Cursor.front.Goals as goal

pub returns-in_err-head-clause-found : goal.returns-in_err-head-clause-found
returns-in_err-head-clause-found g c =
    let p = err_from_is_err_and c.from_residual.result c.from_residual.ensures.1 in
    let at : List ℕ → At = λ bytes. record { left = c.args.self.now.left; bytes = bytes } in
    rw (p.1, p.2) (scans_same _ _ _ _ _ _ c.in_err-head.ensures.found
    (λ bytes rest t few h. fails_along c.in_err-head.field-0.0 _ _ h
    (front_fails c.args.syntax c.args.form c.args.low (at bytes))))

pub returns-in_default-clause-found : goal.returns-in_default-clause-found
returns-in_default-clause-found g c =
    let at : List ℕ → At = λ bytes. record { left = c.args.self.now.left; bytes = bytes } in
    scans_same _ _ _ _ _ _ c.in_ok-head.ensures.found
    (λ bytes rest t few h. front_none c.args.syntax c.args.form c.args.low (at bytes) _ (rw c.in_default.is at h))

pub returns-in_err-element_opening-clause-found : goal.returns-in_err-element_opening-clause-found
returns-in_err-element_opening-clause-found g c =
    let p = err_from_is_err_and c.from_residual-in_err-element_opening.result
    c.from_residual-in_err-element_opening.ensures.1 in
    let at : List ℕ → At = λ bytes. record { left = c.args.self.now.left; bytes = bytes } in
    rw (p.1, p.2) (scans_same _ _ _ _ _ _ c.in_ok-head.ensures.found (λ bytes rest t few h.
    fails_is c.in_err-element_opening.field-0.0 _
    (front_opens c.args.syntax c.args.form c.args.low (at bytes) c.in-Some.head _ (rw c.in-Some.is at h)
    ∙ c.in_err-element_opening.ensures.exact _)))

pub returns-in_err-length-in-Long-clause-found : goal.returns-in_err-length-in-Long-clause-found
returns-in_err-length-in-Long-clause-found g c =
    let p = err_from_is_err_and c.from_residual-in_err-length-in-Long.result
    c.from_residual-in_err-length-in-Long.ensures.1 in
    let at : List ℕ → At = λ bytes. record { left = c.args.self.now.left; bytes = bytes } in
    rw (p.1, p.2) (scans_then _ _ g.met.F.Feed.goes g.met.F.Feed.tells_before _ _ _ _ _ _ c.in_ok-head.ensures.found
    c.in_err-length-in-Long.ensures.found
    (λ bytes mid rest few fewer h k. fails_along c.in_err-length-in-Long.field-0.0 _ _ k (λ e failed.
    let opens = rw c.in-Long.is at (c.in_ok-element_opening.ensures.exact
    (record { left = c.head.new.self.left; bytes = mid })) in
    front_opens c.args.syntax c.args.form c.args.low (at bytes) c.in-Some.head _ (rw c.in-Some.is at h) ∙ opens
    ∙ bind_fails _ _ e failed)))

pub returns-in-End-clause-found : goal.returns-in-End-clause-found
returns-in-End-clause-found g c =
    let at : List ℕ → At = λ bytes. record { left = c.args.self.now.left; bytes = bytes } in
    scans_same _ _ _ _ _ _ c.in_ok-head.ensures.found (λ bytes rest t few h.
    front_opens c.args.syntax c.args.form c.args.low (at bytes) c.in-Some.head _ (rw c.in-Some.is at h)
    ∙ rw c.in-End.is at (c.in_ok-element_opening.ensures.exact
    (record { left = c.head.new.self.left; bytes = rest })))

pub returns-in-Whole-clause-found : goal.returns-in-Whole-clause-found
returns-in-Whole-clause-found g c =
    let at : List ℕ → At = λ bytes. record { left = c.args.self.now.left; bytes = bytes } in
    scans_same _ _ _ _ _ _ c.in_ok-head.ensures.found (λ bytes rest t few h.
    front_opens c.args.syntax c.args.form c.args.low (at bytes) c.in-Some.head _ (rw c.in-Some.is at h)
    ∙ rw c.in-Whole.is at (c.in_ok-element_opening.ensures.exact
    (record { left = c.head.new.self.left; bytes = rest })))

pub returns-in_ok-length-in-Long-clause-found : goal.returns-in_ok-length-in-Long-clause-found
returns-in_ok-length-in-Long-clause-found g c =
    let at : List ℕ → At = λ bytes. record { left = c.args.self.now.left; bytes = bytes } in
    scans_then _ _ g.met.F.Feed.goes g.met.F.Feed.tells_before _ _ _ _ _ _ c.in_ok-head.ensures.found
    c.in_ok-length-in-Long.ensures.found
    (λ bytes mid rest few fewer h k.
    let opens = rw c.in-Long.is at (c.in_ok-element_opening.ensures.exact
    (record { left = c.head.new.self.left; bytes = mid })) in
    front_opens c.args.syntax c.args.form c.args.low (at bytes) c.in-Some.head _ (rw c.in-Some.is at h) ∙ opens
    ∙ bind_made _ _ _ k)
