use Rattle.std.proofs.Common.{◌≡◌, ◌∙◌, ap, sym, length, arith}
use Rattle.dd_elem.specs.Clean.{clean_of}
use Rattle.dd_scan.proofs.CleanedFronts.{cleaned_same, cleaned_more}
use Rattle.dd_scan.proofs.cleaning.cleaned_with.Goals as goal

pub returns-then-kept-eq0 : goal.returns-then-kept-eq0
returns-then-kept-eq0 c = λ front counted before.
    let none : length (clean_of c.args.piece.now) ≡ 0 = sym (ap length c.clean-kept.ensures.exact)
    ∙ c.if-kept-eq0.true in
    before ∙ sym (cleaned_same front c.args.piece.now none)

pub returns : goal.returns
returns c = λ front counted before.
    let kept = ap length c.clean-kept.ensures.exact in
    let more = cleaned_more front c.args.piece.now (omega arith) in
    omega arith
