use Rattle.std.proofs.Common.{sym, ◌∙◌, ap}
use Rattle.dd_elem.specs.Ordered.{bytes_cmp}
use Rattle.dd_catalogue.proofs.Places.{by_key}
use Rattle.dd_catalogue.specs.Best.{put}
use Rattle.dd_catalogue.specs.BestLaws.{best_of_rising}
use Rattle.dd_catalogue.proofs.greatest.Greatest.offer.Goals as goal

pub returns-in-Ok : goal.returns-in-Ok
returns-in-Ok g c =
    let own = best_of_rising (by_key g.T.Keyed.key_of g.met.T.Ordered.total g.met.T.Ordered.apart) c.args.self.now
    c.index_of.ensures.rising in
    c.challenge.ensures ∙ ap (λ m. put g.T.Keyed.key_of bytes_cmp g.T.Ordered.order c.args.value.now m) (sym own)

pub returns-in-Err : goal.returns-in-Err
returns-in-Err g c =
    let own = best_of_rising (by_key g.T.Keyed.key_of g.met.T.Ordered.total g.met.T.Ordered.apart) c.args.self.now
    c.index_of.ensures.rising in
    rw own c.admit.ensures
