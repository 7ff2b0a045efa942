use Rattle.std.proofs.Common.{sym}
use Rattle.dd_part10.proofs.Cuts.{header_long}
use Rattle.dd_part10.proofs.group.read_count.Goals as goal

pub returns-clause-whole : goal.returns-clause-whole
returns-clause-whole c = header_long c.args.front.now c.in-Some.rest.now (sym c.in-Some.ensures)
    c.if-rest-lt-COUNT_SIZE.false
