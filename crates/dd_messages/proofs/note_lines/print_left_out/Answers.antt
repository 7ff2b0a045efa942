-- A path in three parts prints as one.
use Rattle.std.proofs.Common.{ℕ, List, subst}
use Rattle.std.specs.Prelude.{OnOk}
use Rattle.dd_lines.specs.Text.{TakesText}
use Rattle.dd_messages.proofs.LeftOutParts.{left_out_parts}
use Rattle.dd_messages.proofs.note_lines.print_left_out.Goals as goal

pub returns-clause-told : goal.returns-clause-told
returns-clause-told g c =
    subst (λ (text : List ℕ). OnOk c.print_line.result (TakesText g.O.Write c.args.out.now c.print_line.new.to text))
    (left_out_parts c.args.file.0.now c.args.file.1.now c.args.file.2.now c.args.kept.0.now c.args.kept.1.now
    c.args.kept.2.now c.args.uid.now) c.print_line.ensures.sent
