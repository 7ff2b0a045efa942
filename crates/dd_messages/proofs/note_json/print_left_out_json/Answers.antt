-- The members are those of the definition.
use Rattle.dd_json.proofs.ValueTexts.{sees_more, sees_none, value-Text, value-Texts}
use Rattle.dd_messages.proofs.NoteObjects.{object_taken}
use Rattle.dd_messages.proofs.note_json.print_left_out_json.Goals as goal

pub returns-clause-told : goal.returns-clause-told
returns-clause-told g c =
    object_taken g.O.Write c.print_json.result _ _ c.args.out.now c.print_json.new.to c.print_json.ensures.sent
    (sees_more (value-Text _) (sees_more (value-Text _) (sees_more (value-Texts _)
    (sees_more (value-Texts _) (sees_more (value-Text _) sees_none)))))
