-- Of a file in a transfer syntax that is not read, the transfer syntax alone is compared.
use Rattle.std.proofs.Common.{◌∙◌, ap, [], ◌∷◌}
use Rattle.dd_report.specs.Agreements.{Agreement, first_wrong}
use Rattle.dd_calls.proofs.agreements.finding_of_fault.Goals as goal

pub returns-in-OtherSyntax-clause-found : goal.returns-in-OtherSyntax-clause-found
returns-in-OtherSyntax-clause-found c = λ entry seen.
    rw c.in-OtherSyntax.is
    (c.first_wrong.ensures ∙ ap (λ (a : Agreement). first_wrong (a ∷ [])) (c.syntax_agreement.ensures entry seen))
