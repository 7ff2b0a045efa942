-- All notes were added.
use Rattle.dd_making.proofs.PutNotes.{all_notes}
use Rattle.dd_making.proofs.note_rows.NoteTable.of.Goals as goal

pub returns : goal.returns
returns c =
    all_notes c.args.notes.now _ _ _ _ _ c.deref.ensures.value c.deref-2.ensures.value c.new.ensures.items
    c.new-2.ensures.text c.new-2.ensures.ends c.in_ok-add_left_out.ensures c.in_ok-add_names.ensures
