-- No path is concerned.
use Rattle.std.proofs.Common.{None}
use Rattle.std.proofs.Common.{refl}
use Rattle.dd_messages.proofs.FaultLines.{told_words}
use Rattle.dd_messages.proofs.fault_line.print_general.Goals as goal

pub returns-in-Words : goal.returns-in-Words
returns-in-Words g c = rw c.in-Words.is
    (told_words g.W.Write None c.args.line.words.now _ _ _ c.print_line.result refl c.print_line.ensures.sent
    c.print_line.ensures.unsent)
