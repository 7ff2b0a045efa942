use Rattle.std.proofs.Common.{◌∙◌}
use Rattle.dd_catalogue.proofs.TakenOut.{placed}
use Rattle.dd_catalogue.proofs.best.Table.has.Goals as goal

pub returns : goal.returns
returns g c =
    c.is_ok.ensures.value ∙ placed g.T.Keyed.key_of c.args.key.now c.args.self.now c.index_of.result c.index_of.ensures.rising
    c.index_of.ensures.index
