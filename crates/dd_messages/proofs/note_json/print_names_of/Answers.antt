-- The members are those of the definition, and the names are some value.
use Rattle.std.proofs.Common.{refl}
use Rattle.dd_json.proofs.ValueTexts.{sees_more, sees_none, value-Number, value-Shown, value-Text}
use Rattle.dd_json.specs.Values.{json_line, value_of}
use Rattle.dd_json.specs.declared.value.Json.{Array}
use Rattle.dd_lines.specs.Text.{TakesText}
use Rattle.dd_messages.proofs.NoteObjects.{object_taken}
use Rattle.dd_messages.proofs.OkAnswers.{on_ok_by}
use Rattle.dd_messages.specs.NoteLines.{names_json}
use Rattle.dd_messages.proofs.note_json.print_names_of.Goals as goal

pub returns-clause-told : goal.returns-clause-told
returns-clause-told g c =
    let shown = value_of (Array c.args.names) in
    on_ok_by c.print_json.result
    (λ (took : TakesText g.O.Write c.args.out.now c.print_json.new.to
    (json_line (names_json c.args.id.now c.args.count shown))). (shown, took))
    (object_taken g.O.Write c.print_json.result _ _ c.args.out.now c.print_json.new.to c.print_json.ensures.sent
    (sees_more (value-Text _) (sees_more (value-Text _) (sees_more (value-Shown _)
    (sees_more (value-Number _) (sees_more refl sees_none))))))
