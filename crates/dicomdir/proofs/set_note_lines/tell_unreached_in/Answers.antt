-- The folder of the note's set is the path of its number.
use Rattle.std.proofs.Common.{◌≡◌, ◌∙◌, [], ℕ, List, ap, get_or, string_bytes, subst, sym}
use Rattle.std.proofs.lemmas.List.{get_or-map}
use Rattle.std.specs.Prelude.{OnOk}
use Rattle.dd_line.specs.Line.{words_of}
use Rattle.dd_lines.specs.Text.{TakesText}
use Rattle.dd_messages.specs.NoteLines.{unreached_line}
use Rattle.dicomdir.proofs.set_note_lines.tell_unreached_in.Goals as goal

pub returns-clause-told : goal.returns-clause-told
returns-clause-told g c =
    let folders = c.args.folders.now in
    let note = c.args.note.now in
    let folder : c.as_str.result.now ≡ get_or (words_of folders) note.set [] =
    c.as_str.ensures.value ∙ ap (λ word. string_bytes word) c.index-folders-note.is
    ∙ sym (get_or-map (λ word. string_bytes word) folders note.set c.index-folders-note.result [] c.requires) in
    subst (λ (folder : List ℕ). OnOk c.tell_unreached_set.result
    (TakesText g.O.Write c.args.out.now c.tell_unreached_set.new.out (unreached_line c.args.style folder note.records)))
    folder c.tell_unreached_set.ensures.told
