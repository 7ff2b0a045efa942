-- The list could not be read, or a name in it is bad.
use Rattle.std.proofs.Common.{◌≡◌, ◌∙◌, Some, rules}
use Rattle.std.proofs.lemmas.Result.{err_from_is_err_and}
use Rattle.dd_inputs.specs.ListedNames.{list_of}
use Rattle.dd_inputs.proofs.source_paths.listed_sources.Goals as goal

pub returns-in_err-bytes-in-Some-clause-due : goal.returns-in_err-bytes-in-Some-clause-due
returns-in_err-bytes-in-Some-clause-due g c = λ r named keeps.
    let p = err_from_is_err_and c.from_residual.result c.from_residual.ensures.1 in
    let is : list_of r ≡ Some c.as_str.result.now = named ∙ search rules in
    rw (p.1, p.2) (c.in_err-bytes-in-Some.ensures.due r is)
