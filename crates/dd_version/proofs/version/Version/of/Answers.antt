use Rattle.std.proofs.Common.{refl}
use Rattle.dd_version.proofs.Misfits.{fits_from_none, least_from_found, misfit_from_found}
use Rattle.dd_version.proofs.version.Version.of.Goals as goal

pub invariant_of-result : goal.invariant_of-result
invariant_of-result c = fits_from_none c.args.parts c.in-None.ensures

pub returns-in-Some-clause-accepted : goal.returns-in-Some-clause-accepted
returns-in-Some-clause-accepted c =
    ((λ ok. absurd (cc)), (λ fits. absurd (misfit_from_found c.args.parts c.in-Some.tag c.in-Some.ensures fits)))

pub returns-in-Some-clause-least : goal.returns-in-Some-clause-least
returns-in-Some-clause-least c = least_from_found c.args.parts c.in-Some.tag c.in-Some.ensures

pub returns-in-None-clause-accepted : goal.returns-in-None-clause-accepted
returns-in-None-clause-accepted c = ((λ ok. fits_from_none c.args.parts c.in-None.ensures), (λ fits. refl))
