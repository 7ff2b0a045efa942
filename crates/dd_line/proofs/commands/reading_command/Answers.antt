-- The command has its argument.
use Rattle.std.proofs.Common.{refl}
use Rattle.std.proofs.lemmas.Result.{IfOk-weaker}
use Rattle.dd_line.proofs.LineLemmas.{shows_same, with_arg}
use Rattle.dd_line.proofs.commands.reading_command.Goals as goal

pub returns : goal.returns
returns c =
    let start = shows_same _ _ _ _ c.about.ensures refl refl
    (record { app = c.new.ensures.app; local = c.new.ensures.local }) in
    IfOk-weaker c.arg.result _ _
    (λ command adds. with_arg _ _ _ _ _ start c.path.ensures adds) c.arg.ensures
