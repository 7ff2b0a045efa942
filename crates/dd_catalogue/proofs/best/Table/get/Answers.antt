use Rattle.std.proofs.Common.{sym}
use Rattle.dd_catalogue.proofs.Places.{at_read, at_between}
use Rattle.dd_catalogue.proofs.best.Table.get.Goals as goal

pub returns-in-Ok : goal.returns-in-Ok
returns-in-Ok g c =
    let found = rw (c.in-Ok.is, ← c.self.view_is) at c.index_of.ensures.index in
    rw (← c.self.view_is) (sym (at_read g.T.Keyed.key_of c.args.key.now c.self.inside.held.items c.in-Ok.index
    c.index.result.now c.self.invariant found.0 found.1 c.index.ensures))

pub returns-in-Err : goal.returns-in-Err
returns-in-Err g c =
    let found = rw c.in-Err.is at c.index_of.ensures.index in
    sym (at_between g.T.Keyed.key_of c.args.key.now c.args.self.now c.in-Err.field-0 found.1 found.2)
