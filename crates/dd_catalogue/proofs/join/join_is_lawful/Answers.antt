use Rattle.dd_catalogue.proofs.join.join_is_lawful.Goals as goal

pub returns : goal.returns
returns g c = g.met.J.Join.laws
