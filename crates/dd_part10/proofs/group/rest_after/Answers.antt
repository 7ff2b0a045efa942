use Rattle.std.proofs.lemmas.Bool.Decides.{Decides-eqb}
use Rattle.std.proofs.lemmas.Slice.Eq.{strip_prefix_is}
use Rattle.dd_part10.proofs.Fronts.{rest_after-strips}
use Rattle.dd_part10.proofs.group.rest_after.Goals as goal

pub returns : goal.returns
returns c =
    rest_after-strips c.args.front.now c.args.bytes.now c.strip_prefix.result
    (strip_prefix_is Decides-eqb c.args.bytes.now c.args.front.now c.strip_prefix.result c.strip_prefix.ensures.cases)
