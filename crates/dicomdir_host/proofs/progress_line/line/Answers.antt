-- The texts have at most 89 bytes together.
use Rattle.std.proofs.Common.{◌≤◌, [], ℕ, List, arith, ap, codes, decimal, length, refl}
use Rattle.std.specs.Fmt.InlineText.{inline_text}
use Rattle.dicomdir_host.proofs.ProgressLines.{IsShort, adds}
use Rattle.dicomdir_host.proofs.progress_line.line.Goals as goal

itself : (text : List ℕ) (most : ℕ) → length text ≤ most → IsShort text text most
itself text most short = record { same = refl; short = short }

pub returns : goal.returns
returns c = λ short left.
    let none : IsShort (inline_text c.new.result) [] 0 =
    record { same = c.new.ensures.text; short = omega (arith, ap length c.new.ensures.text) } in
    let done : IsShort c.format.result.now (decimal c.args.done) 20 =
    record { same = c.format.ensures.text; short = c.format.ensures.fits } in
    let of : IsShort c.format-2.result.now (decimal c.args.of) 20 =
    record { same = c.format-2.ensures.text; short = c.format-2.ensures.fits } in
    let back = adds _ _ _ _ _ 0 1 none (itself (codes "\r") 1 (omega arith)) (omega arith) c.with.ensures in
    let start = adds _ _ _ _ _ 1 8 back (itself c.args.doing.now 8 short) (omega arith) c.with-start.ensures in
    let space = adds _ _ _ _ _ 9 1 start (itself (codes " ") 1 (omega arith)) (omega arith) c.with-2.ensures in
    let counted = adds _ _ _ _ _ 10 20 space done (omega arith) c.with-counted.ensures in
    let all = adds _ _ _ _ _ 30 4 counted (itself (codes " of ") 4 (omega arith)) (omega arith) c.with-3.ensures in
    let both = adds _ _ _ _ _ 34 20 all of (omega arith) c.with-all.ensures in
    let time = adds _ _ _ _ _ 54 32 both (itself c.args.left.now 32 left) (omega arith) c.with-4.ensures in
    let line = adds _ _ _ _ _ 86 3 time (itself (codes "\u{1b}[K") 3 (omega arith)) (omega arith) c.with-5.ensures in
    line.same
