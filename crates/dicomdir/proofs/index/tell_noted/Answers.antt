-- The three kinds of lines are printed one after the other.
use Rattle.dd_line.specs.Line.{words_of}
use Rattle.dd_messages.proofs.OkAnswers.{on_ok_by}
use Rattle.dicomdir.proofs.SaidLines.{SaidTo, notes_said}
use Rattle.dicomdir.specs.Said.{IsNames}
use Rattle.dicomdir.proofs.index.tell_noted.Goals as goal

pub returns-clause-told : goal.returns-clause-told
returns-clause-told g c =
    let noted = c.args.past.now.noted in
    let style = c.args.style in
    on_ok_by c.tell_names.result
    (λ (named : SaidTo g.O.Write (IsNames style) noted.notes.names.items c.tell_left_out.new.out c.tell_names.new.out).
    notes_said g.O.Write style (words_of c.args.sources.now) noted c.args.out.now c.tell_skipped.new.out
    c.tell_left_out.new.out c.tell_names.new.out
    (rw c.deref.ensures.value at c.in_ok-tell_skipped.ensures.told)
    (rw c.deref-2.ensures.value at c.in_ok-tell_left_out.ensures.told) named)
    (rw c.deref-3.ensures.value at c.tell_names.ensures.told)
