use Rattle.std.proofs.Common.{sym, ◌∙◌, ap}
use Rattle.dd_elem.specs.Ordered.{bytes_cmp}
use Rattle.dd_catalogue.proofs.Places.{by_key, at_between}
use Rattle.dd_catalogue.specs.Best.{put}
use Rattle.dd_catalogue.specs.BestLaws.{best_of_rising}
use Rattle.dd_catalogue.proofs.best.Table.take.Goals as goal

pub returns-in-Ok-clause-ok : goal.returns-in-Ok-clause-ok
returns-in-Ok-clause-ok g c =
    let own = best_of_rising (by_key g.T.Keyed.key_of g.met.T.Ordered.total g.met.T.Ordered.apart) c.args.self.now
    c.index_of.ensures.rising in
    c.challenge.ensures.after ∙ ap (λ m. put g.T.Keyed.key_of bytes_cmp g.T.Ordered.order c.args.value m) (sym own)

pub returns-in-Err-clause-ok : goal.returns-in-Err-clause-ok
returns-in-Err-clause-ok g c =
    let own = best_of_rising (by_key g.T.Keyed.key_of g.met.T.Ordered.total g.met.T.Ordered.apart) c.args.self.now
    c.index_of.ensures.rising in
    rw own c.admit.ensures.ok

pub returns-in-Err-clause-took : goal.returns-in-Err-clause-took
returns-in-Err-clause-took g c =
    let found = rw (c.in-Err.is, c.key.ensures) at c.index_of.ensures.index in
    let none = at_between g.T.Keyed.key_of (g.T.Keyed.key_of c.args.value) c.args.self.now c.in-Err.index found.1
    found.2 in
    rw none c.admit.ensures.new

pub returns-in-Err-clause-there : goal.returns-in-Err-clause-there
returns-in-Err-clause-there g c =
    let found = rw (c.in-Err.is, c.key.ensures) at c.index_of.ensures.index in
    let none = at_between g.T.Keyed.key_of (g.T.Keyed.key_of c.args.value) c.args.self.now c.in-Err.index found.1
    found.2 in
    rw none (λ there. cc)
