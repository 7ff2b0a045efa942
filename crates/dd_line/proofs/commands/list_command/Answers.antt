-- The command has each argument in turn.
use Rattle.std.proofs.Common.{refl}
use Rattle.std.proofs.lemmas.Result.{IfOk-weaker}
use Rattle.dd_line.proofs.LineLemmas.{shows_same, with_arg}
use Rattle.dd_line.proofs.commands.list_command.Goals as goal

pub returns : goal.returns
returns c =
    let start = shows_same _ _ _ _ c.after_help-command.ensures refl refl c.in_ok-reading_command.ensures in
    let long = with_arg _ _ _ _ _ start c.flag.ensures c.in_ok-arg.ensures in
    let verbose = with_arg _ _ _ _ _ long c.verbose.ensures c.in_ok-arg-2.ensures in
    IfOk-weaker c.arg-3.result _ _
    (λ command adds. with_arg _ _ _ _ _ verbose c.json.ensures adds) c.arg-3.ensures
