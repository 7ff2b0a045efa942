use Rattle.std.proofs.Common.{sym, ◌∙◌, subst}
use Rattle.dd_catalogue.specs.Contents.{IsHeld}
use Rattle.dd_catalogue.proofs.TakenOut.{withdrawn_there}
use Rattle.dd_catalogue.proofs.catalogue.Catalogue.has_withdrawn.Goals as goal

pub returns-clause-withdrawn : goal.returns-clause-withdrawn
returns-clause-withdrawn c =
    rw (← c.self.view_is) (c.has.ensures ∙ sym (withdrawn_there c.self.inside.withdrawn c.args.instance.now))

pub returns-clause-held : goal.returns-clause-held
returns-clause-held c = subst IsHeld c.self.view_is c.self.invariant
