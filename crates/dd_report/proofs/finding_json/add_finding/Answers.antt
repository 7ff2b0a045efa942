-- What is said is said of the finding.
use Rattle.dd_report.proofs.finding_json.add_finding.Goals as goal

pub returns-in-Unreadable-clause-written : goal.returns-in-Unreadable-clause-written
returns-in-Unreadable-clause-written g c = rw c.in-Unreadable.is c.add_file-in-Unreadable.ensures.written

pub returns-in-NoDigest-clause-written : goal.returns-in-NoDigest-clause-written
returns-in-NoDigest-clause-written g c = rw c.in-NoDigest.is c.add_file-in-NoDigest.ensures.written
