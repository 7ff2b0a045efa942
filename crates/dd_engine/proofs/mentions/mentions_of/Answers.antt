use Rattle.std.proofs.Common.{◌∙◌}
use Rattle.std.proofs.lemmas.Iterator.{YieldsList-from_slice, YieldsList-from_zip}
use Rattle.std.proofs.lemmas.Iterator.Consumers.{YieldsList-end}
use Rattle.dd_engine.proofs.mentions.mentions_of.Goals as goal

pub returns : goal.returns
returns c =
    c.loop-number.invariant
    ∙ (YieldsList-end (YieldsList-from_zip (YieldsList-from_slice c.args.numbers.now cc)
    (YieldsList-from_slice c.args.uids.now cc))
    c.loop-number.yielded _ c.loop-number.yielded_by _ c.next.new.self c.in-None.is c.next.ensures.steps).0
