-- The line asks for what the request does.
use Rattle.dd_line.proofs.LineVerbs.{asked_reads, requested_asks}
use Rattle.dd_line.proofs.line.read_words.Goals as goal

pub returns-clause-asked : goal.returns-clause-asked
returns-clause-asked c = requested_asks c.in_ok-request.request c.in_ok-line_of.field-0 _
    c.in_ok-request.ensures.request c.in_ok-line_of.ensures.asked

pub returns-clause-reading : goal.returns-clause-reading
returns-clause-reading c = asked_reads c.in_ok-line_of.field-0 _ (returns-clause-asked c)
