-- The ID is the first part after the words that begin the line.
use Rattle.std.proofs.Common.{ℕ, List, [], ◌∷◌, codes}
use Rattle.dd_lines.specs.Text.{TakesText}
use Rattle.dd_messages.proofs.OkAnswers.{on_ok_by}
use Rattle.dd_messages.specs.NoteLines.{names_words}
use Rattle.dd_messages.proofs.note_lines.print_names.Goals as goal

pub returns-clause-told : goal.returns-clause-told
returns-clause-told g c =
    let more : List (List ℕ) =
    c.or_none.result.now ∷ codes " has " ∷ c.as_bytes-count.result.now ∷ codes " names: " ∷ c.name_at.result.now ∷
    c.mark_before.result.now ∷ c.name_at-2.result.now ∷ c.mark_before-2.result.now ∷ c.name_at-3.result.now ∷
    c.mark_before-3.result.now ∷ c.name_at-4.result.now ∷ c.mark_before-4.result.now ∷ c.name_at-5.result.now ∷
    c.mark_before-5.result.now ∷ c.name_at-6.result.now ∷ c.mark_before-6.result.now ∷ c.name_at-7.result.now ∷
    c.mark_before-7.result.now ∷ c.name_at-8.result.now ∷ c.mark_before-8.result.now ∷ c.name_at-9.result.now ∷
    c.mark_before-9.result.now ∷ c.name_at-10.result.now ∷ c.mark_behind.result.now ∷ [] in
    on_ok_by c.show_line.result
    (λ (took : TakesText g.O.Write c.args.out.now c.show_line.new.to (names_words c.args.id.now more)). (more, took))
    c.show_line.ensures.sent
