-- The members are those of the definition.
use Rattle.std.proofs.Common.{refl, subst}
use Rattle.std.specs.Prelude.{OnErr, OnOk}
use Rattle.serde_json.specs.Data.{Data}
use Rattle.dd_json.proofs.ValueTexts.{object_is, sees_more, sees_none, value-Text}
use Rattle.dd_json.specs.Values.{json_line}
use Rattle.dd_lines.specs.Text.{FailsInText, TakesText}
use Rattle.dd_messages.proofs.fault_json.print_broken_for.Goals as goal

pub returns-clause-sent : goal.returns-clause-sent
returns-clause-sent g c =
    subst (λ (x : Data). OnOk c.print_json.result (TakesText g.W.Write c.args.to.now c.print_json.new.to (json_line x)))
    (object_is _ _ (sees_more (value-Text _) (sees_more refl sees_none))) c.print_json.ensures.sent

pub returns-clause-unsent : goal.returns-clause-unsent
returns-clause-unsent g c =
    subst (λ (x : Data). OnErr c.print_json.result
    (FailsInText g.W.Write c.args.to.now c.print_json.new.to (json_line x))) (object_is _ _ (sees_more (value-Text _) (sees_more refl sees_none))) c.print_json.ensures.unsent
