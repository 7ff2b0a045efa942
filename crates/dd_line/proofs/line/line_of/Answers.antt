-- The line of a request is that of its command.
use Rattle.dd_line.proofs.line.line_of.Goals as goal

pub returns-in-Withdraw-clause-asked : goal.returns-in-Withdraw-clause-asked
returns-in-Withdraw-clause-asked c = rw c.in-Withdraw.is c.withdraw_line.ensures.asked

pub returns-in-Stage-clause-asked : goal.returns-in-Stage-clause-asked
returns-in-Stage-clause-asked c = rw c.in-Stage.is c.stage_line.ensures.asked

pub returns-in-Publish-clause-asked : goal.returns-in-Publish-clause-asked
returns-in-Publish-clause-asked c = rw c.in-Publish.is c.publish_line.ensures.asked
