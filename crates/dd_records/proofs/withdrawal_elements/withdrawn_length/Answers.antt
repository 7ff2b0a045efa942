use Rattle.dd_records.proofs.WithdrawalElements.{value_length}
use Rattle.dd_records.proofs.withdrawal_elements.withdrawn_length.Goals as goal

pub returns-clause-exact : goal.returns-clause-exact
returns-clause-exact c =
    value_length c.args.withdrawn.now c.closed_length-length.result c.closed_length-length.ensures.exact
