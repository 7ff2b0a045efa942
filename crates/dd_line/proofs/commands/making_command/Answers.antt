-- The command has each argument in turn.
use Rattle.std.proofs.lemmas.Result.{IfOk-weaker}
use Rattle.dd_line.proofs.LineLemmas.{with_arg}
use Rattle.dd_line.proofs.commands.making_command.Goals as goal

pub returns : goal.returns
returns c =
    let strict = with_arg _ _ _ _ _ c.in_ok-labelled_command.ensures c.flag.ensures c.in_ok-arg.ensures in
    IfOk-weaker c.arg-2.result _ _
    (λ command adds. with_arg _ _ _ _ _ strict c.flag-2.ensures adds) c.arg-2.ensures
