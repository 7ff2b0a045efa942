-- The name of this number is bad.
use Rattle.std.proofs.Common.{◌≡◌, inr, rules}
use Rattle.dd_faults.specs.declared.refusal.ProgramFault.TheVariants.{BadName}
use Rattle.dd_inputs.proofs.source_paths.with_listed.Goals as goal

pub returns-clause-fault : goal.returns-clause-fault
returns-clause-fault c =
    let is : c.of.result.fault ≡ BadName c.in-Err-BadName.at = search rules in
    inr (c.in-Err-BadName.at, is, c.in-Err-BadName.ensures.bad c.in-Err-BadName.at (search rules))
