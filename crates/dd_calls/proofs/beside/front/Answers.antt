-- The values are given whole, or they are wider than their room.
use Rattle.std.proofs.Common.{ℕ, subst, sym}
use Rattle.dd_calls.specs.Beside.{SaysBeside}
use Rattle.dd_calls.proofs.Growing.{one_not_zero}
use Rattle.dd_calls.proofs.beside.front.Goals as goal

pub returns-in-Ok-clause-given : goal.returns-in-Ok-clause-given
returns-in-Ok-clause-given c = λ done.
    record {
      values = c.in-Ok.front.values;
      says = subst (λ (n : ℕ). SaysBeside c.args.bytes.now c.in-Ok.front.values n)
          (sym (c.give_front.ensures.count done)) c.in-Ok.ensures.front;
      fit_ends = c.give_front.ensures.fit_ends done;
      fit_text = c.give_front.ensures.fit_text done;
      ends_are = c.give_front.ensures.ends done;
      text_is = c.give_front.ensures.text done;
      size = c.give_front.ensures.size;
    }

pub returns-in-Ok-clause-longer : goal.returns-in-Ok-clause-longer
returns-in-Ok-clause-longer c = λ one.
    record {
      values = c.in-Ok.front.values;
      unreached = c.in-Ok.front.unreached;
      says = c.in-Ok.ensures.front;
      longer = c.give_front.ensures.room (one_not_zero c.give_front.result one);
      size = c.give_front.ensures.size;
    }
