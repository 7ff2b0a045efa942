-- The list could not be read, or a name in it is bad.
use Rattle.std.proofs.Common.{◌≡◌, ◌∙◌, Some, rules}
use Rattle.std.proofs.lemmas.Result.{err_from_is_err_and}
use Rattle.dd_inputs.specs.ListedNames.{list_of}
use Rattle.dd_inputs.proofs.source_paths.listed_in.Goals as goal

pub returns-in_err-bytes-clause-due : goal.returns-in_err-bytes-clause-due
returns-in_err-bytes-clause-due g c = λ r named keeps.
    let p = err_from_is_err_and c.from_residual-in_err-bytes.result c.from_residual-in_err-bytes.ensures.1 in
    let is : list_of r ≡ Some c.as_str-2.result.now = named ∙ search rules in
    rw (p.1, p.2) (c.in_err-bytes.ensures.due r is)
