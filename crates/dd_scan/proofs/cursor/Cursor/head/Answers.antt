use Rattle.std.proofs.Common.{◌≡◌, ◌∙◌, List, ℕ, true, false}
use Rattle.std.proofs.lemmas.Result.{err_from_is_err_and}
use Rattle.dd_grammar.specs.Reading.{At, is_over}
use Rattle.dd_stream.proofs.Along.{scans_none, scans_same}
use Rattle.dd_scan.proofs.Feeding.{head_over, head_more}
use Rattle.dd_scan.proofs.cursor.Cursor.head.Goals as goal

pub returns-in-Some-true-clause-found : goal.returns-in-Some-true-clause-found
returns-in-Some-true-clause-found g c =
    let at : List ℕ → At = λ bytes. record { left = c.args.self.now.left; bytes = bytes } in
    let over : (bytes : List ℕ) → is_over c.args.form (at bytes) ≡ true = λ bytes. c.in-Some-true.ensures.exact bytes
    ∙ c.in-Some-true.field-0-test in
    scans_none _ _ _ _ (g.met.F.Feed.stays _) (λ rest t. head_over c.args.form (at rest) (over rest))

pub returns-in_err-eight-in-Some-false-clause-found : goal.returns-in_err-eight-in-Some-false-clause-found
returns-in_err-eight-in-Some-false-clause-found g c =
    let p = err_from_is_err_and c.from_residual.result c.from_residual.ensures.1 in
    let at : List ℕ → At = λ bytes. record { left = c.args.self.now.left; bytes = bytes } in
    let more : (bytes : List ℕ) → is_over c.args.form (at bytes) ≡ false = λ bytes. c.in-Some-false.ensures.exact bytes
    ∙ c.in-Some-false.field-0-test in
    rw (p.1, p.2) (scans_same _ _ _ _ _ _ c.in_err-eight-in-Some-false.ensures.found (λ bytes rest t few h. rw
    (head_more c.args.form (at bytes) (more bytes)) h))

pub returns-in_ok-eight-in-Some-false-clause-found : goal.returns-in_ok-eight-in-Some-false-clause-found
returns-in_ok-eight-in-Some-false-clause-found g c =
    let at : List ℕ → At = λ bytes. record { left = c.args.self.now.left; bytes = bytes } in
    let more : (bytes : List ℕ) → is_over c.args.form (at bytes) ≡ false = λ bytes. c.in-Some-false.ensures.exact bytes
    ∙ c.in-Some-false.field-0-test in
    scans_same _ _ _ _ _ _ c.in_ok-eight-in-Some-false.ensures.found (λ bytes rest t few h. rw
    (head_more c.args.form (at bytes) (more bytes)) h)
