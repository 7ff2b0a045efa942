-- The members are those of the definition.
use Rattle.std.proofs.Common.{[], ◌∷◌, refl}
use Rattle.std.specs.Prelude.{codes}
use Rattle.dd_json.proofs.ValueTexts.{sees_more, sees_none, value-Text}
use Rattle.dd_json.specs.Values.{value_of}
use Rattle.dd_json.specs.declared.value.Json.{Text, Texts}
use Rattle.dd_messages.proofs.FaultLines.{object_sent, object_unsent}
use Rattle.dd_messages.proofs.fault_json.print_hinted.Goals as goal

pub returns-then-is_empty-clause-sent : goal.returns-then-is_empty-clause-sent
returns-then-is_empty-clause-sent g c =
    object_sent g.W.Write _ (value_of c.args.path) (value_of c.args.fault)
    ((codes "help", value_of (Texts c.args.step)) ∷ []) _ _
    (sees_more (value-Text _) (sees_more refl (sees_more refl (sees_more refl sees_none))))
    c.print_json.result c.print_json.ensures.sent

pub returns-then-is_empty-clause-unsent : goal.returns-then-is_empty-clause-unsent
returns-then-is_empty-clause-unsent g c =
    object_unsent g.W.Write _ (value_of c.args.path) (value_of c.args.fault)
    ((codes "help", value_of (Texts c.args.step)) ∷ []) _ _
    (sees_more (value-Text _) (sees_more refl (sees_more refl (sees_more refl sees_none))))
    c.print_json.result c.print_json.ensures.unsent

pub returns-clause-sent : goal.returns-clause-sent
returns-clause-sent g c =
    object_sent g.W.Write _ (value_of c.args.path) (value_of c.args.fault)
    ((codes "cause", value_of (Text c.args.cause)) ∷ (codes "help", value_of (Texts c.args.step)) ∷ []) _ _
    (sees_more (value-Text _) (sees_more refl (sees_more refl (sees_more refl (sees_more refl sees_none)))))
    c.print_json-2.result c.print_json-2.ensures.sent

pub returns-clause-unsent : goal.returns-clause-unsent
returns-clause-unsent g c =
    object_unsent g.W.Write _ (value_of c.args.path) (value_of c.args.fault)
    ((codes "cause", value_of (Text c.args.cause)) ∷ (codes "help", value_of (Texts c.args.step)) ∷ []) _ _
    (sees_more (value-Text _) (sees_more refl (sees_more refl (sees_more refl (sees_more refl sees_none)))))
    c.print_json-2.result c.print_json-2.ensures.unsent
