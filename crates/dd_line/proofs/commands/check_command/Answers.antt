-- The command has each argument in turn.
use Rattle.std.proofs.lemmas.Result.{IfOk-weaker}
use Rattle.dd_line.proofs.LineLemmas.{with_arg}
use Rattle.dd_line.proofs.commands.check_command.Goals as goal

pub returns : goal.returns
returns c =
    let quiet = with_arg _ _ _ _ _ c.in_ok-comparing_command.ensures c.quiet.ensures c.in_ok-arg.ensures in
    let verbose = with_arg _ _ _ _ _ quiet c.verbose.ensures c.in_ok-arg-2.ensures in
    IfOk-weaker c.arg-3.result _ _
    (λ command adds. with_arg _ _ _ _ _ verbose c.json.ensures adds) c.arg-3.ensures
