-- In words there is no object of the fault.
use Rattle.dd_json.specs.declared.value.Style.TheVariants.{Text}
use Rattle.dd_lines.specs.Text.{TakesText}
use Rattle.dd_messages.proofs.OkAnswers.{on_ok_by}
use Rattle.dd_messages.specs.NoteLines.{skip_line}
use Rattle.serde_json.specs.Data.{null}
use Rattle.dd_messages.proofs.note_lines.tell_skip.Goals as goal

pub returns-in-Text-clause-told : goal.returns-in-Text-clause-told
returns-in-Text-clause-told g c =
    rw c.in-Text.is (on_ok_by c.print_line.result
    (λ (took : TakesText g.O.Write c.args.out.now c.print_line.new.to
    (skip_line Text c.args.path.now c.args.words.now null)). (null, took)) c.print_line.ensures.sent)
