use Rattle.dd_catalogue.proofs.AnyOrder.{gather_is_free}
use Rattle.dd_catalogue.proofs.join.gather_order_is_free.Goals as goal

pub returns : goal.returns
returns g c = gather_is_free g.met.J.Join.laws
