use Rattle.std.proofs.Common.{inr, subst}
use Rattle.std.proofs.lemmas.Result.{err_from_is_err_and}
use Rattle.dicomdir.specs.Names.{HasBadUid}
use Rattle.dicomdir.proofs.names.names_of.Goals as goal

pub returns-in_err-withdrawn-clause-bad : goal.returns-in_err-withdrawn-clause-bad
returns-in_err-withdrawn-clause-bad c =
    let p = err_from_is_err_and c.from_residual-in_err-withdrawn.result c.from_residual-in_err-withdrawn.ensures.1 in
    rw (p.1, p.2) (λ line. inr (inr (subst HasBadUid c.instances_in.ensures (c.in_err-withdrawn.ensures.bad line))))
