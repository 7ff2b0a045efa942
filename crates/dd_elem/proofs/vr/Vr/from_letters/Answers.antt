use Rattle.dd_elem.proofs.Letters.{vr_exact}
use Rattle.dd_elem.proofs.vr.Vr.from_letters.Goals as goal

pub returns-clause-exact : goal.returns-clause-exact
returns-clause-exact c = vr_exact c.args.letters c.by_letters.result c.by_letters.ensures.named
    c.by_letters.ensures.unnamed
