use Rattle.dd_catalogue.proofs.AnyOrder.{order_is_free}
use Rattle.dd_catalogue.proofs.join.join_order_is_free.Goals as goal

pub returns : goal.returns
returns g c = order_is_free g.met.J.Join.laws
