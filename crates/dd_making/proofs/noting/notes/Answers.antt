-- All notes are given, or one part is longer than its room.
use Rattle.std.proofs.Common.{subst, sym}
use Rattle.dd_making.specs.Cuts.{cuts}
use Rattle.dd_making.specs.Noted.{AreNoted}
use Rattle.dd_making.specs.declared.noting.Sum.{Sum}
use Rattle.dd_making.proofs.Making.{one_not_zero}
use Rattle.dd_making.proofs.noting.notes.Goals as goal

pub returns-in-Ok-clause-given : goal.returns-in-Ok-clause-given
returns-in-Ok-clause-given c = λ done.
    let noted = c.in-Ok.ensures.noted in
    record {
      choice = noted.0;
      asks = noted.1;
      table = c.in-Ok.notes.table;
      are_noted = subst (λ (sum : Sum).
          AreNoted noted.0 (cuts 0 c.args.bytes.now c.args.ends.now) c.in-Ok.notes.table sum)
          (sym (c.give.ensures.sum done)) noted.2;
      lies = c.give.ensures.lies done;
      size = c.give.ensures.size;
    }

pub returns-in-Ok-clause-room : goal.returns-in-Ok-clause-room
returns-in-Ok-clause-room c = λ one.
    let noted = c.in-Ok.ensures.noted in
    record {
      choice = noted.0;
      asks = noted.1;
      table = c.in-Ok.notes.table;
      sum = c.in-Ok.notes.sum;
      are_noted = noted.2;
      wider = c.give.ensures.wider (one_not_zero c.give.result one);
      size = c.give.ensures.size;
    }
