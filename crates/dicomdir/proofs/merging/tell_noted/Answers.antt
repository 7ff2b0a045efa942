-- The kinds of lines are printed one after the other.
use Rattle.dd_line.specs.Line.{words_of}
use Rattle.dd_messages.proofs.OkAnswers.{on_ok_by}
use Rattle.dicomdir.proofs.SaidLines.{SaidTo, set_notes_said}
use Rattle.dicomdir.specs.Said.{IsNames}
use Rattle.dicomdir.proofs.merging.tell_noted.Goals as goal

pub returns-clause-said : goal.returns-clause-said
returns-clause-said g c = λ strict.
    let noted = c.args.noted.now in
    let style = c.args.style in
    on_ok_by c.tell_names.result
    (λ (named : SaidTo g.O.Write (IsNames style) noted.notes.names.items c.tell_unlisted.new.out c.tell_names.new.out).
    set_notes_said g.O.Write style (words_of c.args.folders.now) noted c.args.out.now c.tell_unreached.new.out
    c.tell_left_out.new.out c.tell_withdrawn.new.out c.tell_unlisted.new.out c.tell_names.new.out
    (rw c.deref.ensures.value at c.in_ok-tell_unreached.ensures.told)
    (rw c.deref-2.ensures.value at c.in_ok-tell_left_out.ensures.told)
    (c.in_ok-tell_withdrawn.ensures.none (rw c.deref-3.ensures.value strict))
    (rw c.deref-4.ensures.value at c.in_ok-tell_unlisted.ensures.told) named)
    (rw c.deref-5.ensures.value at c.tell_names.ensures.told)
