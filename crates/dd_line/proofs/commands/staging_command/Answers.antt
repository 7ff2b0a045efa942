-- The command has each argument in turn.
use Rattle.std.proofs.Common.{refl}
use Rattle.std.proofs.lemmas.Result.{IfOk-weaker}
use Rattle.dd_line.proofs.LineLemmas.{shows_same, with_arg}
use Rattle.dd_line.proofs.commands.staging_command.Goals as goal

pub returns : goal.returns
returns c =
    let start = shows_same _ _ _ _ c.after_help-command.ensures refl refl c.in_ok-showing_command.ensures in
    let names = with_arg _ _ _ _ _ start c.files0_from.ensures c.in_ok-arg.ensures in
    let from = with_arg _ _ _ _ _ names c.from.ensures c.in_ok-arg-2.ensures in
    IfOk-weaker c.arg-3.result _ _
    (λ command adds. with_arg _ _ _ _ _ from c.keep_going.ensures adds) c.arg-3.ensures
