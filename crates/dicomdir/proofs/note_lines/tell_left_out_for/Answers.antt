-- Each path is shown by its three parts.
use Rattle.std.proofs.Common.{◌∙◌, ◌++◌, ℕ, List, ap, ap₂, subst}
use Rattle.std.specs.Prelude.{OnOk}
use Rattle.dd_lines.specs.Text.{TakesText}
use Rattle.dd_messages.specs.NoteLines.{left_out_words}
use Rattle.dicomdir.specs.Said.{shown_text}
use Rattle.dicomdir.proofs.note_lines.tell_left_out_for.Goals as goal

pub returns-in-Text-clause-told : goal.returns-in-Text-clause-told
returns-in-Text-clause-told g c =
    let file = c.args.file in
    let kept = c.args.kept in
    rw c.in-Text.is (subst (λ (text : List ℕ). OnOk c.print_left_out.result
    (TakesText g.O.Write c.args.out.now c.print_left_out.new.out text))
    (ap₂ (λ (one other : List ℕ). left_out_words (file.folder.now ++ (file.joint.now ++ one))
    (kept.folder.now ++ (kept.joint.now ++ other)) c.uid_text-uid.result.now)
    c.as_str-inside.ensures.value c.as_str-kept_inside.ensures.value
    ∙ ap (λ (uid : List ℕ). left_out_words (shown_text file) (shown_text kept) uid) c.uid_text-uid.ensures)
    c.print_left_out.ensures.told)
