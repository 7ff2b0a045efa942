-- The number of records is in decimal.
use Rattle.std.proofs.Common.{ℕ, List, [], ◌∷◌, codes, subst}
use Rattle.std.specs.Prelude.{OnOk}
use Rattle.dd_lines.specs.Text.{TakesText}
use Rattle.dd_messages.specs.NoteLines.{said_line}
use Rattle.dd_messages.proofs.note_lines.print_unreached.Goals as goal

pub returns-clause-told : goal.returns-clause-told
returns-clause-told g c =
    subst (λ (records : List ℕ). OnOk c.print_line.result (TakesText g.O.Write c.args.out.now c.print_line.new.to
    (said_line (codes "NOTE " ∷ c.args.set.now ∷ codes ": " ∷ records ∷ codes " records are not reached" ∷ []))))
    c.format-count.ensures.text c.print_line.ensures.sent
