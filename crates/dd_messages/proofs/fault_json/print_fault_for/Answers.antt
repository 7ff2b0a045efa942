-- The members are those of the definition.
use Rattle.std.proofs.Common.{[], refl}
use Rattle.dd_json.proofs.ValueTexts.{sees_more, sees_none, value-Text}
use Rattle.dd_json.specs.Values.{value_of}
use Rattle.dd_messages.proofs.FaultLines.{object_sent, object_unsent}
use Rattle.dd_messages.proofs.fault_json.print_fault_for.Goals as goal

pub returns-in-None-clause-sent : goal.returns-in-None-clause-sent
returns-in-None-clause-sent g c =
    object_sent g.W.Write _ (value_of c.args.path) (value_of c.args.fault) [] _ _
    (sees_more (value-Text _) (sees_more refl (sees_more refl sees_none)))
    c.print_json.result c.print_json.ensures.sent

pub returns-in-None-clause-unsent : goal.returns-in-None-clause-unsent
returns-in-None-clause-unsent g c =
    object_unsent g.W.Write _ (value_of c.args.path) (value_of c.args.fault) [] _ _
    (sees_more (value-Text _) (sees_more refl (sees_more refl sees_none)))
    c.print_json.result c.print_json.ensures.unsent
