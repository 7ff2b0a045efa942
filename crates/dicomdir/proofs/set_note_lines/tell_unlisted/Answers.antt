-- One line more is printed.
use Rattle.std.proofs.Common.{ℕ, List, ap, arith, subst}
use Rattle.dicomdir.proofs.SaidLines.{said_more}
use Rattle.dd_messages.specs.NoteLines.{unlisted_line}
use Rattle.dicomdir.specs.Said.{IsUnlisted}
use Rattle.dicomdir.proofs.set_note_lines.tell_unlisted.Goals as goal

pub loop-instance-preserved : goal.loop-instance-preserved
loop-instance-preserved g c =
    let style = c.args.style in
    let uid = c.instance-item.result in
    let line = unlisted_line style c.uid_text.result.now in
    let is : IsUnlisted style uid line = ap (λ (uid : List ℕ). unlisted_line style uid) c.uid_text.ensures in
    said_more g.O.Write (IsUnlisted style) c.args.unlisted.now c.loop-instance.instance-index uid line c.args.out.now
    c.loop-instance.out c.tell_unlisted_uid.new.out (omega (arith, c.loop-instance-test.true))
    c.loop-instance.invariant (subst (λ uid. IsUnlisted style uid line) c.instance-item.is is)
    c.in_ok-tell_unlisted_uid.ensures.told
