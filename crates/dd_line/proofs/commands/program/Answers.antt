-- The program has each command in turn.
use Rattle.std.proofs.lemmas.Result.{IfOk-weaker}
use Rattle.dd_line.proofs.LineLemmas.{with_sub}
use Rattle.dd_line.proofs.commands.program.Goals as goal

pub returns : goal.returns
returns c =
    let start = c.bare_program.ensures in
    let index = with_sub _ _ _ _ _ start c.in_ok-index_command.ensures c.in_ok-subcommand.ensures in
    let merge = with_sub _ _ _ _ _ index c.in_ok-merge_command.ensures c.in_ok-subcommand-2.ensures in
    let withdraw = with_sub _ _ _ _ _ merge c.in_ok-withdraw_command.ensures c.in_ok-subcommand-3.ensures in
    let stage = with_sub _ _ _ _ _ withdraw c.in_ok-stage_command.ensures c.in_ok-subcommand-4.ensures in
    let publish = with_sub _ _ _ _ _ stage c.in_ok-publish_command.ensures c.in_ok-subcommand-5.ensures in
    let check = with_sub _ _ _ _ _ publish c.in_ok-check_command.ensures c.in_ok-subcommand-6.ensures in
    IfOk-weaker c.subcommand-7.result _ _
    (λ m adds. with_sub _ _ _ _ _ check c.in_ok-list_command.ensures adds) c.subcommand-7.ensures
