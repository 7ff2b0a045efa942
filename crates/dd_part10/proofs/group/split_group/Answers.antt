use Rattle.std.proofs.Common.{List, ℕ, ap, ◌∙◌, arith, take, drop}
use Rattle.std.proofs.lemmas.List.{length-drop}
use Rattle.std.proofs.lemmas.Result.{err_from_is_err_and}
use Rattle.dd_part10.proofs.Cuts.{length_fails, split_fails, split_gives}
use Rattle.dd_part10.proofs.Fronts.{from_place}
use Rattle.dd_part10.proofs.group.split_group.Goals as goal

pub returns-in_err-count-clause-exact : goal.returns-in_err-count-clause-exact
returns-in_err-count-clause-exact c =
    let p = err_from_is_err_and c.from_residual.result c.from_residual.ensures.1 in
    rw (p.1, p.2) (length_fails c.in_err-count.field-0.0 c.args.bytes.now c.in_err-count.ensures.exact)

pub returns-then-rest-count-clause-exact : goal.returns-then-rest-count-clause-exact
returns-then-rest-count-clause-exact c =
    split_fails c.args.bytes.now c.in_ok-count.field-0 c.in_ok-count.ensures.exact
    (omega (arith, length-drop 12 c.args.bytes.now, c.if-rest-count.true))

pub returns-clause-exact : goal.returns-clause-exact
returns-clause-exact c =
    let n = c.in_ok-count.field-0 in
    let rest = from_place 12 c.args.bytes.now in
    split_gives c.args.bytes.now _ _ n c.in_ok-count.ensures.exact
    (omega (arith, length-drop 12 c.args.bytes.now, c.if-rest-count.false))
    (c.split_at.ensures.front ∙ ap (λ (s : List ℕ). take n s) rest)
    (c.split_at.ensures.back ∙ ap (λ (s : List ℕ). drop n s) rest)
