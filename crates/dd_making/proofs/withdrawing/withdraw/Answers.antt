-- It is given whole, or it is wider than its rooms.
use Rattle.dd_making.proofs.Making.{one_not_zero}
use Rattle.dd_making.proofs.withdrawing.withdraw.Goals as goal

pub returns-in-Ok-clause-made : goal.returns-in-Ok-clause-made
returns-in-Ok-clause-made c = λ done.
    let made = c.in-Ok.ensures.made in
    record {
      choice = made.0;
      asks = made.1;
      made = c.in-Ok.made;
      is_made = made.2;
      lies = c.give.ensures.lies done;
      size = c.give.ensures.size;
    }

pub returns-in-Ok-clause-room : goal.returns-in-Ok-clause-room
returns-in-Ok-clause-room c = λ one.
    let made = c.in-Ok.ensures.made in
    record {
      choice = made.0;
      asks = made.1;
      made = c.in-Ok.made;
      is_made = made.2;
      wider = c.give.ensures.wider (one_not_zero c.give.result one);
      size = c.give.ensures.size;
    }
